use Rattle.std.proofs.Common.{arith}
use Rattle.lines.proofs.Fields.{small_more, small_here, columns_more, columns_end}
use Rattle.lines.proofs.field.read_columns.Goals as goal

pub next_column-f-requires : goal.next_column-f-requires
next_column-f-requires c = small_here c.loop-b.f c.loop-b.b-index (omega arith) c.loop-b.invariant.1

pub loop-b-preserved : goal.loop-b-preserved
loop-b-preserved c = (
  columns_more c.args.bytes.now c.loop-b.b-index c.loop-b.f _ c.loop-b.invariant.0 c.next_column-f.result c.next_column-f.ensures c.loop-b-test.true,
  small_more c.loop-b.f c.next_column-f.result _ c.loop-b.b-index c.next_column-f.ensures c.loop-b.invariant.1,
)

pub returns : goal.returns
returns c = columns_end c.args.bytes.now c.loop-b.b-index c.loop-b.f _ c.loop-b.invariant.0 c.loop-b-test.false
