-- Where the counts pass, there are at most 4096 modules and 256 entries.
use Rattle.std.proofs.Common.{◌≡◌, ◌≤◌, length, arith, Ok, Option}
use Rattle.std.proofs.lemmas.Grind.{common_steps}
use Rattle.tables.specs.Value.{Table}
use Rattle.tables.specs.declared.thing.Field.{Field}
use Rattle.tables.specs.declared.thing.Thing.{Thing}
use Rattle.definitions.specs.Checks.{counts_checked}

module _ {P : Type 0} (place : Thing → Field → Option P) (t : Table) where
  pub counts_within : Ok tt ≡ counts_checked place t → (length t.modules ≤ 4096) × (length t.entries ≤ 256)
  unfolding counts_checked
  counts_within e = grind (arith, common_steps)
