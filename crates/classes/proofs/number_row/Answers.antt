use Rattle.std.proofs.Common.{sym, ap, ◌∙◌, arith}
use Rattle.classes.specs.Numbering.{stored}
use Rattle.classes.proofs.Placing.{empty_not_least, empty_none, found_not_least, new_least}
use Rattle.classes.proofs.Steps.{row_empty, row_some, class_found, number_same, number_over, number_new}
use Rattle.classes.proofs.number_row.Goals as goal

pub returns-then-is_empty-clause-numbered : goal.returns-then-is_empty-clause-numbered
returns-then-is_empty-clause-numbered c bits s =
    let none = row_empty s c.requires.layout c.requires.row_in _ c.is_empty.ensures c.if-is_empty.true in
    number_same s c.requires.layout c.requires.row_in (empty_not_least 256 bits c.args.m none) 0 (ap stored (sym (empty_none 256 bits c.args.m none)))

pub returns-in-Some-clause-numbered : goal.returns-in-Some-clause-numbered
returns-in-Some-clause-numbered c bits s =
    let is = class_found s c.requires.layout c.requires.row_in c.find_class.result c.find_class.ensures ∙ c.in-Some.is in
    number_same s c.requires.layout c.requires.row_in (found_not_least 256 bits c.args.m c.in-Some.a is) _ (ap stored (sym is))

pub returns-then-found-most-clause-numbered : goal.returns-then-found-most-clause-numbered
returns-then-found-most-clause-numbered c bits s =
    let none = class_found s c.requires.layout c.requires.row_in c.find_class.result c.find_class.ensures ∙ c.in_default.is in
    let some = row_some s c.requires.layout c.requires.row_in _ c.is_empty.ensures c.if-is_empty.false in
    number_over s c.requires.layout c.requires.row_in (new_least 256 bits c.args.m some none) none c.if-found-most.true

pub returns-clause-numbered : goal.returns-clause-numbered
returns-clause-numbered c bits s =
    let none = class_found s c.requires.layout c.requires.row_in c.find_class.result c.find_class.ensures ∙ c.in_default.is in
    let some = row_some s c.requires.layout c.requires.row_in _ c.is_empty.ensures c.if-is_empty.false in
    number_new s c.requires.layout c.requires.row_in (new_least 256 bits c.args.m some none) none (omega arith)
