use Rattle.std.proofs.Common.{◌≡◌}
use Rattle.bits.proofs.Fills.{EntriesDone}
use Rattle.bits.proofs.determine_reachable_modules.Given as goal

abbrev pub invariant-loop-e : goal.invariant-loop-e
invariant-loop-e g l =
    let means = g.T.LinkTable.means in
    record {
      done : EntriesDone (means l.fn.table).table l.places l.fn.words (means l.table).table l.words l.e;
      kept : means l.table ≡ means l.fn.table;
    }
