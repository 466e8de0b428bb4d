use Rattle.std.proofs.Common.{ap, ◌∙◌}
use Rattle.tables.specs.View.{view}
use Rattle.definitions.specs.Checks.{link_checked, links_checked}
use Rattle.checkparts.specs.Each.{each_below}
use Rattle.checkparts.proofs.Turns.{each_told}
use Rattle.checks.specs.Linked.{chain_checked_within}
use Rattle.checks.proofs.Chained.{chain_told}
use Rattle.checks.proofs.links.check_links.Goals as goal

pub returns-clause-answer : goal.returns-clause-answer
unfolding links_checked
returns-clause-answer g c =
    let v = g.T.LinkTable.means c.args.table.now in
    let asked = c.symbol_count-symbols.ensures in
    let n = c.symbol_count-symbols.result in
    each_told (chain_checked_within v.place (view v.table) n) (link_checked v.place (view v.table)) n v.table.symbols _ asked.answer
    (λ k x at. chain_told v.place v.table n k asked.answer)
    (c.check_each.ensures.answer ∙ ap (λ w. each_below (chain_checked_within w.place (view w.table) n) 0 n) asked.kept)
