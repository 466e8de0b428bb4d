use Rattle.std.proofs.Common.{◌≡◌, ◌-◌, take}
use Rattle.reach.proofs.Visits.{SlotsDone}
use Rattle.reach.proofs.visit.Given as goal

abbrev pub invariant-loop-slot : goal.invariant-loop-slot
invariant-loop-slot g l =
    let m = g.G.Graph in
    record {
      done : SlotsDone l.places (m.shape l.fn.graph) l.fn.words l.v l.tail (m.shape l.graph) l.words l.from l.end;
      kept : m.means l.graph ≡ m.means l.fn.graph;
    }

abbrev pub decreases-loop-slot : goal.decreases-loop-slot
decreases-loop-slot g l =
    let s = g.G.Graph.shape l.fn.graph in
    s.slots (take s.limit l.fn.words) l.v - l.from
