-- What an entry loads, which entries import which, and the covered atoms.
use Rattle.std.specs.Prelude.{◌≡◌, ℕ, ◌<◌, Bool, true, false, cond, not, ◌&&◌, List, [], ◌∷◌, Some, None, MatchBool, ◌==◌}
use Rattle.tables.specs.Below.{some_below, some_of, is}
use Rattle.definitions.specs.Graph.{Path, reaches}
use Rattle.tables.specs.View.{View, entry_count, entry_at}
use Rattle.tables.specs.Flags.{normal, root, dynamic}
use Rattle.tables.specs.declared.parts.Site.{Site}
use Rattle.definitions.specs.Bits.{has, atoms, whole, host}
use Rattle.definitions.specs.Targets.{reach_graph}

-- entry e statically loads atom a
unfoldable pub loads : View → ℕ → ℕ → Bool
loads t e a = cond t.strict (whole t a e) (elim (host t e) [ Some h ↦ reaches (atoms t) (reach_graph t) h a | None ↦ false ])

-- the same in words: `loads_decides` of proofs/Loads. In a strict table, the atoms that have the entry; else those that a path of
-- the reach graph leads to from its host
abbrev pub Loads : View → ℕ → ℕ → Type 0
Loads t e a = MatchBool t.strict (whole t a e ≡ true) ((h : ℕ) × (host t e ≡ Some h) × Path (reach_graph t) h a)

unfoldable pub counting_site : View → ℕ → Site → Bool
counting_site t e s = s.flags == 3 && (normal t s.importer && is s.target (root t e))

-- entry i imports the dynamic entry e
unfoldable pub imports : View → ℕ → ℕ → Bool
imports t i e = dynamic t e && (entry_at t e).some_site (λ s. counting_site t e s && has t s.importer i)

-- an import chain from a first entry to a last, by the entries before its last place
pub data Chain (t : View) : ℕ → List ℕ → ℕ → Type 0 where
  last : {e : ℕ} → Chain t e [] e
  then : {i j e : ℕ} {before : List ℕ} → imports t i j ≡ true → Chain t j before e → Chain t i (i ∷ before) e

-- atom a is covered for entry e
abbrev pub Covered : View → ℕ → ℕ → Type 0
Covered t a e = (i : ℕ) (before : List ℕ) → i < entry_count t → dynamic t i ≡ false → Chain t i before e → some_of (λ k. loads t k a) before ≡ true

-- the same as a test: `covered_decides` of proofs/Cover
unfoldable pub open_step : View → ℕ → ℕ → ℕ → Bool
open_step t a i j = imports t i j && not (loads t i a)

unfoldable pub covered : View → ℕ → ℕ → Bool
covered t a e = not (some_below (entry_count t) (λ i. not (dynamic t i) && reaches (entry_count t) (open_step t a) i e))
