-- The check of all counts from those of its parts, each at what the table meant when it was asked.
use Rattle.std.proofs.Common.{◌≡◌, ℕ, length, Ok, arith}
use Rattle.std.specs.List.{slice_get}
use Rattle.std.specs.Option.{option_map_or}
use Rattle.tables.specs.Value.{Meaning}
use Rattle.tables.specs.declared.thing.Thing.TheVariants as thing
use Rattle.definitions.specs.Checks.{Checked, each, few, few_in_module, few_in_entry, counts_checked}
use Rattle.checkparts.specs.Each.{each_below}
use Rattle.checkparts.proofs.Turns.{each_there}

pub counts_end : {P : Type 0} (v w₁ w₂ w₃ w₄ w₅ : Meaning P) (modules entries symbols : ℕ) (r : Checked P) → Ok tt ≡ few w₁.place 4096 (thing.Module 4096) modules →
    Ok tt ≡ few w₂.place 256 (thing.Entry 256) entries → Ok tt ≡ few w₃.place 16384 (thing.Symbol 16384) symbols →
    Ok tt ≡ each_below (λ m. option_map_or (few_in_module w₄.place m) (slice_get w₄.table.modules m) (Ok tt)) 0 modules →
    r ≡ each_below (λ e. option_map_or (few_in_entry w₅.place e) (slice_get w₅.table.entries e) (Ok tt)) 0 entries →
    w₁ ≡ v → w₂ ≡ v → w₃ ≡ v → w₄ ≡ v → w₅ ≡ v →
    modules ≡ length v.table.modules → entries ≡ length v.table.entries → symbols ≡ length v.table.symbols → r ≡ counts_checked v.place v.table
unfolding counts_checked
counts_end v w₁ w₂ w₃ w₄ w₅ modules entries symbols r one two three four five e₁ e₂ e₃ e₄ e₅ em ee es =
    let p : Ok tt ≡ each (few_in_module v.place) 0 v.table.modules = each_there _ _ _ _ em (rw e₄ at four) in
    let q : r ≡ each (few_in_entry v.place) 0 v.table.entries = each_there _ _ _ _ ee (rw e₅ at five) in
    grind arith
