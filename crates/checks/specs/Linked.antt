-- What is checked of a symbol's chain of links, by the symbol's number alone.
use Rattle.std.specs.Prelude.{ℕ, not, Option}
use Rattle.tables.specs.View.{View}
use Rattle.tables.specs.Links.{endless}
use Rattle.asks.specs.Walked.{ends_within}
use Rattle.tables.specs.declared.fault.Cause.TheVariants.{EndlessLinks}
use Rattle.tables.specs.declared.thing.Field.{Field}
use Rattle.tables.specs.declared.thing.Field.TheVariants as field
use Rattle.tables.specs.declared.thing.Thing.{Thing}
use Rattle.tables.specs.declared.thing.Thing.TheVariants as thing
use Rattle.definitions.specs.Checks.{Checked, unless, fault_at}

-- that it has an end
abbrev pub chain_checked : {P : Type 0} → (Thing → Field → Option P) → View → ℕ → Checked P
chain_checked place t s = unless (not (endless t s)) (fault_at place (EndlessLinks s) (thing.Symbol s) field.Whole)

-- that it comes to its end within k links
abbrev pub chain_checked_within : {P : Type 0} → (Thing → Field → Option P) → View → ℕ → ℕ → Checked P
chain_checked_within place t k s = unless (ends_within t k s) (fault_at place (EndlessLinks s) (thing.Symbol s) field.Whole)
