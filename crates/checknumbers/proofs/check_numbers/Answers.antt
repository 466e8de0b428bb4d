use Rattle.std.proofs.Common.{Err, ap, ◌∙◌}
use Rattle.std.proofs.lemmas.Result.{err_from_is_err_and}
use Rattle.checknumbers.proofs.Parts.{entries_stop, numbers_end}
use Rattle.checknumbers.proofs.check_numbers.Goals as goal

pub returns-in_err-check_each-2-clause-answer : goal.returns-in_err-check_each-2-clause-answer
returns-in_err-check_each-2-clause-answer g c =
    let means = g.T.LinkTable.means in
    let one = c.in_ok-check_below_if.ensures.answer in
    let two = c.in_ok-check_each.ensures.answer in
    let p = err_from_is_err_and c.from_residual-in_err-check_each-2.result c.from_residual-in_err-check_each-2.ensures.1 in
    p.1 ∙ ap Err p.2
    ∙ entries_stop (means c.args.table.now) (means c.runtime-runtime.new.self) (means c.check_below_if.new.table) (means c.check_each.new.table) _ _ _ c.runtime-runtime.result one two _
    c.in_err-check_each-2.ensures.answer (cc) (cc) (cc) (cc) (cc) (cc) (cc)

pub returns-clause-answer : goal.returns-clause-answer
returns-clause-answer g c =
    let means = g.T.LinkTable.means in
    let one = c.in_ok-check_below_if.ensures.answer in
    let two = c.in_ok-check_each.ensures.answer in
    let three = c.in_ok-check_each-2.ensures.answer in
    numbers_end (means c.args.table.now) (means c.runtime-runtime.new.self) (means c.check_below_if.new.table) (means c.check_each.new.table) _ _ _ c.runtime-runtime.result one two
    (means c.check_each-2.new.table) _ three c.check_each-3.ensures.answer (cc) (cc) (cc) (cc) (cc) (cc) (cc) (cc)
