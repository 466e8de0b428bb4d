-- What is checked of an export's name.
use Rattle.std.specs.Prelude.{ℕ, not, List, take, Option}
use Rattle.tables.specs.Below.{some_of}
use Rattle.tables.specs.Names.{same_name}
use Rattle.tables.specs.Value.{Export}
use Rattle.tables.specs.declared.fault.Cause.TheVariants.{NameTwice}
use Rattle.tables.specs.declared.thing.Field.{Field}
use Rattle.tables.specs.declared.thing.Field.TheVariants as field
use Rattle.tables.specs.declared.thing.Thing.{Thing}
use Rattle.tables.specs.declared.thing.Thing.TheVariants as thing
use Rattle.definitions.specs.Checks.{Checked, unless, fault_at}

module _ {P : Type 0} (place : Thing → Field → Option P) where
  -- y has another name than export i of module m, whose name is given
  abbrev pub other_name : ℕ → ℕ → List ℕ → Export → Checked P
  other_name m i name y = unless (not (same_name y.name name)) (fault_at place NameTwice (thing.Export m i) field.Name)

  -- no export before number i has the name of x, which is export i of module m
  abbrev pub new_name : List Export → ℕ → ℕ → Export → Checked P
  new_name exports m i x = unless (not (some_of (λ y. same_name y.name x.name) (take i exports))) (fault_at place NameTwice (thing.Export m i) field.Name)
