use Rattle.std.proofs.Common.{◌≡◌}
use Rattle.graphs.proofs.Backs.{Tried}
use Rattle.graphs.proofs.cycles.has_cycle.Given as goal

abbrev pub invariant-loop-v : goal.invariant-loop-v
invariant-loop-v g l =
    let m = g.G.Graph in
    record {
      tried : Tried l.places (m.shape l.fn.graph) l.fn.words (m.shape l.graph) l.words l.v;
      kept : m.means l.graph ≡ m.means l.fn.graph;
    }
