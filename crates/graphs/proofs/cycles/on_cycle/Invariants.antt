use Rattle.std.proofs.Common.{◌≡◌, ◌-◌, take}
use Rattle.graphs.proofs.Backs.{SlotsSpread}
use Rattle.graphs.proofs.cycles.on_cycle.Given as goal

abbrev pub invariant-loop-slot : goal.invariant-loop-slot
invariant-loop-slot g l =
    let m = g.G.Graph in
    record {
      spread : SlotsSpread l.places (m.shape l.fn.graph) l.fn.words l.v (m.shape l.graph) l.words l.from;
      kept : m.means l.graph ≡ m.means l.fn.graph;
    }

abbrev pub decreases-loop-slot : goal.decreases-loop-slot
decreases-loop-slot g l =
    let s = g.G.Graph.shape l.fn.graph in
    s.slots (take s.limit l.fn.words) l.v - l.from
