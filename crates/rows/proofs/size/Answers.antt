use Rattle.std.proofs.Common.{◌≡◌, ◌+◌, ◌≤◌, ◌∙◌, rules}
use lib.Count.{ones}
use Rattle.std.specs.List.{between, sum_by}
use Rattle.std.specs.Slice.Iter.{iter_rest}
use Rattle.std.proofs.iter.runs.Made.{chains}
use Rattle.std.proofs.lemmas.Grind.{same_number_lists}
use Rattle.std.proofs.lemmas.List.{places}
use Rattle.rows.proofs.Words.{few, count_row}
use Rattle.rows.proofs.size.Goals as goal

pub sum-requires-clause-fits : goal.sum-requires-clause-fits
sum-requires-clause-fits c =
    let row : iter_rest c.iter.result ≡ between c.args.at (c.args.at + 4) c.args.words.now = same_number_lists _ _ (search (rules, places)) (λ k l. search (rules, places)) in
    let most : sum_by ones (iter_rest c.iter.result) ≤ 256 = rw row (few c.args.words.now c.args.at c.requires c.type_inv.words) in
    search (rules, chains)

pub returns : goal.returns
returns c =
    let row : iter_rest c.iter.result ≡ between c.args.at (c.args.at + 4) c.args.words.now = same_number_lists _ _ (search (rules, places)) (λ k l. search (rules, places)) in
    let is : c.sum.result ≡ sum_by ones (iter_rest c.iter.result) = search (rules, chains) in
    is ∙ rw row (count_row c.args.words.now c.args.at c.requires c.type_inv.words)
