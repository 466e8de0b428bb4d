use Rattle.std.proofs.Common.{◌+◌, true, rules}
use Rattle.std.specs.List.{between}
use Rattle.std.proofs.lemmas.Iterator.{YieldsList-from_slice}
use Rattle.std.proofs.lemmas.Iterator.Consumers.{fold_from_yields_List}
use Rattle.rows.proofs.Words.{empty_by_fold}
use Rattle.rows.proofs.is_empty.Goals as goal

pub returns : goal.returns
returns c =
    let row = between c.args.at (c.args.at + 4) c.args.words.now in
    empty_by_fold c.args.words.now c.args.at c.requires c.type_inv.words c.fold.result
    (fold_from_yields_List _ _ true _ c.fold.ensures.ran (YieldsList-from_slice row (search rules)) (λ b x r q k. search rules))
