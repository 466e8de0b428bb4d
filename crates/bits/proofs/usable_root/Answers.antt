use Rattle.std.proofs.Common.{ap, ◌∙◌}
use Rattle.tables.specs.View.{view}
use Rattle.loads.specs.Loading.{if_usable}
use Rattle.bits.proofs.Asks.{root_asked}
use Rattle.bits.proofs.usable_root.Goals as goal

pub returns-clause-answer : goal.returns-clause-answer
returns-clause-answer g c =
    let told = c.in_ok-info.ensures in
    let info = c.in_ok-info.info in
    c.if_usable.ensures.answer ∙ ap (λ k. if_usable (view k.table) info.root) told.kept ∙ root_asked _ c.args.e info c.requires told.answer
