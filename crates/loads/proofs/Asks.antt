-- What the table's answers say of the definitions.
use Rattle.std.proofs.Common.{◌≡◌, ℕ, ◌+◌, ◌^◌, ◌<◌, ◌≤◌, Bool, false, ◌&&◌, List, length, get_or, Some, None, Option, sym, refl, ap, ◌∙◌, ⊎_elim, arith}
use Rattle.std.specs.List.{slice_get}
use Rattle.std.specs.Option.{option_map, option_map_or}
use Rattle.std.proofs.lemmas.Option.{slice_get-get_or, slice_get_past}
use Rattle.std.proofs.lemmas.Bool.{cases_lt, lt-ltb, le-ltb}
use Rattle.tables.specs.declared.parts.ModuleInfo.{ModuleInfo}
use Rattle.tables.specs.Value.{Module, Table}
use Rattle.tables.specs.View.{view, no_module}
use Rattle.tables.specs.Flags.{normal, included, flag}
use Rattle.tables.specs.Asked.{info_of, table_module}
use Rattle.reach.specs.Shape.{NextSlot}
use Rattle.definitions.specs.Bits.{usable}
use Rattle.loads.specs.Loading.{load_count, load_slot, load_shape}

-- ---- usable

abbrev told : Option Module → Bool
told None = false
told (Some m) = flag 1 m.flags && flag 2 m.flags

usable_told : (t : Table) (m : ℕ) → usable (view t) m ≡ told (slice_get t.modules m)
unfolding usable normal included view
usable_told t m =
    ⊎_elim
    (λ (l : m < length t.modules).
    ap (λ b. (b && flag 1 (get_or t.modules m no_module).flags) && flag 2 (get_or t.modules m no_module).flags) (lt-ltb m (length t.modules) l)
    ∙ ap told (sym (slice_get-get_or t.modules m no_module l)))
    (λ (l : length t.modules ≤ m).
    ap (λ b. (b && flag 1 (get_or t.modules m no_module).flags) && flag 2 (get_or t.modules m no_module).flags) (le-ltb m (length t.modules) l)
    ∙ ap told (sym (slice_get_past t.modules m l)))
    (cases_lt m (length t.modules))

pub usable_asked : (t : Table) (m : ℕ) (r : Option ModuleInfo) → r ≡ table_module t m
    → option_map_or (λ i. flag 1 i.flags && flag 2 i.flags) r false ≡ usable (view t) m
usable_asked t m r e = ap (λ o. option_map_or (λ i. flag 1 i.flags && flag 2 i.flags) o false) e ∙ go (slice_get t.modules m) ∙ sym (usable_told t m)
  where
    go : (o : Option Module) → option_map_or (λ i. flag 1 i.flags && flag 2 i.flags) (option_map info_of o) false ≡ told o
    go None = refl
    go (Some x) = refl

-- ---- the next slot

abbrev pub Empty : Table → ℕ → ℕ → ℕ → Type 0
Empty t v from end = (i : ℕ) → from ≤ i → i < end → load_slot t v i ≡ None

-- the table means t at first, and t₂ at a turn
module _ (t t₂ : Table) (same : t₂ ≡ t) (v from i : ℕ) (before : Empty t v from i) where
  pub slot_empty : (r : Option ℕ) → r ≡ load_slot t₂ v i → ((w : ℕ) → r ≡ Some w → ⊥) → Empty t v from (i + 1)
  slot_empty None answer miss j a b =
      ⊎_elim (λ (l : j < i). before j a l)
      (λ (l : i ≤ j). let here : j ≡ i = omega arith in ap (load_slot t v) here ∙ ap (λ u. load_slot u v i) (sym same) ∙ sym answer) (cases_lt j i)
  slot_empty (Some w) answer miss j a b = absurd (miss w refl)

  pub slot_found : (ws : List ℕ) (w end : ℕ) → Some w ≡ load_slot t₂ v i → from ≤ i → i < end → end ≡ load_count t v → end < 2 ^ 64
      → NextSlot (load_shape t) ws v from (Some (record { index = i; node = w }))
  unfolding load_shape
  slot_found ws w end answer after below all fits = record {
    after = after;
    below = omega arith;
    holds = ap (λ u. load_slot u v i) (sym same) ∙ sym answer;
    empty = before;
    fits = omega arith;
  }

pub slots_empty : (t : Table) (ws : List ℕ) (v from i end : ℕ) → Empty t v from i → end ≤ i → end ≡ load_count t v → NextSlot (load_shape t) ws v from None
unfolding load_shape
slots_empty t ws v from i end before past all j a b = before j a (omega arith)
