-- Checks of so many things by number, and the check of an item.
use Rattle.std.specs.Prelude.{ℕ, zero, suc, Ok, Option}
use Rattle.tables.specs.declared.thing.Field.{Field}
use Rattle.tables.specs.declared.thing.Field.TheVariants as field
use Rattle.tables.specs.declared.thing.ModuleList.{ModuleList}
use Rattle.tables.specs.declared.thing.Thing.{Thing}
use Rattle.tables.specs.declared.thing.Thing.TheVariants as thing
use Rattle.definitions.specs.Checks.{Checked, then, below}

-- the checks of n numbers, from i on
abbrev pub each_below : {P : Type 0} → (ℕ → Checked P) → ℕ → ℕ → Checked P
each_below one i zero = Ok tt
each_below one i (suc n) = then (one i) (each_below one (suc i) n)

-- item i of a module's list names one of n things
abbrev pub item_checked : {P : Type 0} → (Thing → Field → Option P) → ℕ → ModuleList → ℕ → ℕ → ℕ → Checked P
item_checked place n l m i x = below place n (thing.Item l m i) field.Number x
