use Rattle.std.proofs.Common.{arith}
use Rattle.tables.specs.View.{view}
use Rattle.asks.proofs.Walks.{walk_begins, walk_on, walk_ends, walk_over, ends_told, ends_here}
use Rattle.asks.proofs.walk_links.Goals as goal

pub loop-step-init : goal.loop-step-init
loop-step-init g c = record { same = cc; left = walk_begins _ c.args.links c.args.s }

pub returns-then-link-at-clause-ends : goal.returns-then-link-at-clause-ends
returns-then-link-at-clause-ends g c =
    let t = view (g.T.LinkTable.means c.args.table.now).table in
    ends_here t c.args.links c.args.s c.loop-step.at c.symbol_of-link.result.link
    (walk_ends t c.args.links c.args.s c.loop-step._step c.loop-step.at c.loop-step.invariant.left (cc)) (cc) (cc)

pub returns-clause-ends : goal.returns-clause-ends
unfolding view
returns-clause-ends g c =
    ends_told _ c.args.links c.args.s c.loop-step.at c.symbol_of.result.link
    (walk_over _ c.args.links c.args.s c.loop-step._step c.loop-step.at (omega arith) c.loop-step.invariant.left) (cc)

pub returns-then-link-at-clause-answer : goal.returns-then-link-at-clause-answer
returns-then-link-at-clause-answer g c =
    walk_ends (view (g.T.LinkTable.means c.args.table.now).table) c.args.links c.args.s c.loop-step._step c.loop-step.at c.loop-step.invariant.left (cc)

pub loop-step-preserved : goal.loop-step-preserved
unfolding view
loop-step-preserved g c =
    let v = view (g.T.LinkTable.means c.args.table.now).table in
    record { same = cc; left = walk_on v c.args.links c.args.s c.loop-step._step c.loop-step.at _ (omega arith) c.loop-step.invariant.left (cc) }

pub returns-clause-answer : goal.returns-clause-answer
unfolding view
returns-clause-answer g c = walk_over _ c.args.links c.args.s c.loop-step._step c.loop-step.at (omega arith) c.loop-step.invariant.left
