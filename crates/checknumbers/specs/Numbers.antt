-- The two halves of what is checked of a module's numbers.
use Rattle.std.specs.Prelude.{ℕ, Option}
use Rattle.tables.specs.Value.{Table}
use Rattle.tables.specs.Asked.{items_of, exports_of}
use Rattle.tables.specs.declared.parts.ModuleInfo.{ModuleInfo}
use Rattle.tables.specs.declared.thing.Field.{Field}
use Rattle.tables.specs.declared.thing.Field.TheVariants as field
use Rattle.tables.specs.declared.thing.ModuleList.TheVariants.{Loads, Dependencies, Resolved, References}
use Rattle.tables.specs.declared.thing.Thing.{Thing}
use Rattle.tables.specs.declared.thing.Thing.TheVariants as thing
use Rattle.definitions.specs.Checks.{Checked, then, each, below_if, at_most, export_checked}
use Rattle.checkparts.specs.Each.{item_checked}

module _ {P : Type 0} (place : Thing → Field → Option P) where
  abbrev pub fields_checked : ℕ → ℕ → ModuleInfo → Checked P
  fields_checked symbols m x =
      then (at_most place 255 (thing.Module m) field.Flags x.flags)
      (then (at_most place 2 (thing.Module m) field.Wrap x.wrap)
      (then (below_if place symbols (thing.Module m) field.Namespace x.namespace) (below_if place symbols (thing.Module m) field.Wrapper x.wrapper)))

  abbrev pub lists_checked : ℕ → ℕ → ℕ → Table → Checked P
  lists_checked modules symbols m t =
      then (each (item_checked place modules Loads m) 0 (items_of t Loads m))
      (then (each (item_checked place modules Dependencies m) 0 (items_of t Dependencies m))
      (then (each (item_checked place modules Resolved m) 0 (items_of t Resolved m))
      (then (each (item_checked place symbols References m) 0 (items_of t References m)) (each (export_checked place symbols m) 0 (exports_of t m)))))
