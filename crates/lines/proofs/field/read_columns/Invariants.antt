use Rattle.std.proofs.Common.{◌≡◌, ◌^◌, drop}
use Rattle.lines.specs.declared.field.Field.TheVariants.{Blank}
use Rattle.lines.specs.Field.{columns, Small}
use Rattle.lines.proofs.field.read_columns.Given as goal

abbrev pub invariant-loop-b : goal.invariant-loop-b
invariant-loop-b l = (columns l.f (drop l.b-index l.bytes) ≡ columns Blank l.bytes) × Small l.f (10 ^ l.b-index)
