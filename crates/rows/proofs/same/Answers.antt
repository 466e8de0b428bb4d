use Rattle.std.proofs.Common.{◌+◌, true, rules}
use Rattle.std.specs.List.{between}
use Rattle.std.proofs.lemmas.Grind.{same_number_lists}
use Rattle.std.proofs.lemmas.Iterator.{YieldsList-from_slice, YieldsList-from_zip}
use Rattle.std.proofs.lemmas.Iterator.Consumers.{fold_from_yields_List}
use Rattle.std.proofs.lemmas.List.{places}
use Rattle.rows.proofs.Words.{same_by_fold}
use Rattle.rows.proofs.same.Goals as goal

pub returns : goal.returns
returns c =
    let ws = c.args.words.now in
    let a = between c.args.a (c.args.a + 4) ws in
    let b = between c.args.b (c.args.b + 4) ws in
    same_by_fold ws c.args.a c.args.b c.requires.a_row c.requires.b_row c.type_inv.words c.fold.result
    (fold_from_yields_List _ _ true _ c.fold.ensures.ran
    (YieldsList-from_zip
    (YieldsList-from_slice a (same_number_lists _ _ (search (rules, places)) (λ k l. search (rules, places))))
    (YieldsList-from_slice b (same_number_lists _ _ (search (rules, places)) (λ k l. search (rules, places)))))
    (λ d x r q k. search rules))
