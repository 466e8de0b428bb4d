use Rattle.std.proofs.Common.{◌≡◌, ◌-◌}
use Rattle.reach.proofs.Visits.{Walked}
use Rattle.reach.proofs.reach.Given as goal

abbrev pub invariant-loop-head : goal.invariant-loop-head
invariant-loop-head g l =
    let m = g.G.Graph in
    record {
      walked : Walked l.places (m.shape l.fn.graph) l.fn.words l.fn.start (m.shape l.graph) l.words l.head l.tail;
      kept : m.means l.graph ≡ m.means l.fn.graph;
    }

abbrev pub decreases-loop-head : goal.decreases-loop-head
decreases-loop-head g l = (g.G.Graph.shape l.fn.graph).nodes - l.head
