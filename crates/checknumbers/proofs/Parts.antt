-- The check of all numbers from those of its parts, each at what the table meant when it was asked.
use Rattle.std.proofs.Common.{◌≡◌, ℕ, length, Ok, Err, Option, arith}
use Rattle.std.specs.List.{slice_get}
use Rattle.std.specs.Option.{option_map_or}
use Rattle.tables.specs.Value.{Meaning}
use Rattle.tables.specs.declared.fault.Fault.{Fault}
use Rattle.tables.specs.declared.thing.Field.TheVariants as field
use Rattle.tables.specs.declared.thing.Thing.TheVariants as thing
use Rattle.definitions.specs.Checks.{Checked, each, below_if, module_checked, entry_checked, symbol_checked, numbers_checked}
use Rattle.checkparts.specs.Each.{each_below}
use Rattle.checkparts.proofs.Turns.{each_there}

module _ {P : Type 0} (v w₁ w₂ w₃ : Meaning P) (modules entries symbols : ℕ) (runtime : Option ℕ)
    (one : Ok tt ≡ below_if w₁.place modules thing.Header field.Runtime runtime)
    (two : Ok tt ≡ each_below (λ m. option_map_or (module_checked w₂.place modules symbols m) (slice_get w₂.table.modules m) (Ok tt)) 0 modules) where
  pub entries_stop : (y : Fault P) → Err y ≡ each_below (λ e. option_map_or (entry_checked w₃.place modules e) (slice_get w₃.table.entries e) (Ok tt)) 0 entries →
      w₁ ≡ v → w₂ ≡ v → w₃ ≡ v → modules ≡ length v.table.modules → entries ≡ length v.table.entries → symbols ≡ length v.table.symbols →
      runtime ≡ v.table.runtime → Err y ≡ numbers_checked v.place v.table
  unfolding numbers_checked
  entries_stop y bad e₁ e₂ e₃ em ee es er =
      let p : Ok tt ≡ each (module_checked v.place modules symbols) 0 v.table.modules = each_there _ _ _ _ em (rw e₂ at two) in
      let q : Err y ≡ each (entry_checked v.place modules) 0 v.table.entries = each_there _ _ _ _ ee (rw e₃ at bad) in
      grind arith

  pub numbers_end : (w₄ : Meaning P) (r : Checked P) →
      Ok tt ≡ each_below (λ e. option_map_or (entry_checked w₃.place modules e) (slice_get w₃.table.entries e) (Ok tt)) 0 entries →
      r ≡ each_below (λ s. option_map_or (symbol_checked w₄.place modules symbols s) (slice_get w₄.table.symbols s) (Ok tt)) 0 symbols →
      w₁ ≡ v → w₂ ≡ v → w₃ ≡ v → w₄ ≡ v → modules ≡ length v.table.modules → entries ≡ length v.table.entries → symbols ≡ length v.table.symbols →
      runtime ≡ v.table.runtime → r ≡ numbers_checked v.place v.table
  unfolding numbers_checked
  numbers_end w₄ r three four e₁ e₂ e₃ e₄ em ee es er =
      let p : Ok tt ≡ each (module_checked v.place modules symbols) 0 v.table.modules = each_there _ _ _ _ em (rw e₂ at two) in
      let q : Ok tt ≡ each (entry_checked v.place modules) 0 v.table.entries = each_there _ _ _ _ ee (rw e₃ at three) in
      let s : r ≡ each (symbol_checked v.place modules symbols) 0 v.table.symbols = each_there _ _ _ _ es (rw e₄ at four) in
      grind arith
