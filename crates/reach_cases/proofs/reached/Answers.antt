use Rattle.std.proofs.Common.{arith}
use Rattle.reach.specs.declared.RowMarks.{RowMarks}
use Rattle.graphs.specs.Tests.{test_shape, row_shape}
use Rattle.graphs.proofs.Marks.{row_closed}
use Rattle.reach_cases.proofs.reached.Goals as goal

abbrev marks : RowMarks
marks = record { marks = 28; queue = 32 }

pub reach-requires-clause-closed : goal.reach-requires-clause-closed
unfolding test_shape
reach-requires-clause-closed c =
    rw c.from.ensures (row_closed (row_shape 0 5) marks c.args.words.now _ (omega arith) (omega arith) (omega arith) c.erase.ensures)
