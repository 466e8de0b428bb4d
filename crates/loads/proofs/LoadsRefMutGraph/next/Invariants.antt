use Rattle.std.proofs.Common.{◌≡◌}
use Rattle.loads.proofs.Asks.{Empty}
use Rattle.loads.proofs.LoadsRefMutGraph.next.Given as goal

abbrev pub invariant-loop-i : goal.invariant-loop-i
invariant-loop-i g l =
    let means = g.T.LinkTable.means in
    record {
      empty : Empty (means l.fn.self.table.now).table l.v l.from l.i;
      kept : means l.self.table.now ≡ means l.fn.self.table.now;
      same_table : l.self.table.ghost_name ≡ l.fn.self.table.ghost_name;
    }
