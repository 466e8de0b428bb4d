use Rattle.std.proofs.Common.{◌≡◌}
use Rattle.graphs.proofs.Covering.{StartsDone}
use Rattle.graphs.proofs.cover.uncovered.Given as goal

abbrev pub invariant-loop-i : goal.invariant-loop-i
invariant-loop-i l = record {
  done : StartsDone l.fn.graph l.starts l.fn.row l.fn.words l.words l.i-iterator;
  kept : l.graph ≡ l.fn.graph;
}
