-- What the decisions come to, in words.
use Rattle.std.specs.Prelude.{◌≡◌, ℕ, ◌<◌, Bool, true, false, ◌↔◌, List, ◌∷◌, ◌++◌, Some, None, Option, ◌≢◌}
use Rattle.definitions.specs.declared.Verdict.TheVariants.{Undecided}
use Rattle.definitions.specs.declared.ReducedEntriesAction.TheVariants.{Avoid}
use Rattle.tables.specs.Below.{listed}
use Rattle.definitions.specs.Graph.{Cycle}
use Rattle.tables.specs.View.{View, entry_count}
use Rattle.definitions.specs.Bits.{Has, has, atom, members}
use Rattle.definitions.specs.Targets.{only}
use Rattle.definitions.specs.Cover.{Loads, Covered}
use Rattle.definitions.specs.Rules.{trial, lost, rules}
use Rattle.definitions.specs.Plan.{Veto, Verdicts, accepted, decide, on_trial, chunk_graph}

-- tests that compute say what the words say
pub record TestsAgree
    (has_test : View → ℕ → ℕ → Bool)
    (atom_of : View → ℕ → Option ℕ)
    (loads_test covered_test : View → ℕ → ℕ → Bool)
    (cyclic_test : View → (ℕ → ℕ → Bool) → Bool)
    : Type 0 where
  -- a module has an entry exactly where a path of load dependencies leads to it from the entry's module
  pub entries : (t : View) (m e : ℕ) → (has_test t m e ≡ true) ↔ Has t m e
  -- modules are of one atom exactly where their bits are equal and not empty
  pub one_atom : (t : View) (m k e : ℕ) → has_test t m e ≡ true → (atom_of t m ≡ atom_of t k) ↔ ((i : ℕ) → i < entry_count t → has_test t m i ≡ has_test t k i)
  pub no_atom : (t : View) (m : ℕ) → (atom_of t m ≡ None) ↔ ((i : ℕ) → i < entry_count t → has_test t m i ≡ false)
  -- an entry statically loads what can be reached from its host
  pub loading : (t : View) (e a : ℕ) → (loads_test t e a ≡ true) ↔ Loads t e a
  -- an atom is covered where every import chain from a non-dynamic entry passes one that loads it
  pub covering : (t : View) (a e : ℕ) → (covered_test t a e ≡ true) ↔ Covered t a e
  -- the chunks have a cycle exactly where a chunk reaches itself
  pub cycles : (t : View) (bits : ℕ → ℕ → Bool) → (cyclic_test t bits ≡ true) ↔ Cycle (chunk_graph t bits)

-- atom a may be accepted after the verdicts vs
pub record MayFold (t : View) (veto : Veto) (vs : Verdicts) (a : ℕ) : Type 0 where
  pub loses : (e : ℕ) × (e < entry_count t) × (lost t a e ≡ true)
  pub keeps : (e : ℕ) × (e < entry_count t) × (trial t a e ≡ true)
  pub allowed : (e : ℕ) → e < entry_count t → only (entry_count t) (trial t a) e ≡ true → (veto (members t a) ≡ false) × (rules t a e ≢ Avoid)
  pub acyclic : Cycle (chunk_graph t (on_trial t vs a)) → ⊥

-- what `decided` gives, whatever atoms were decided, in whatever order, and what modules then have
pub record Decisions (after_deciding : View → Veto → List ℕ → Verdicts) (still_has : View → Verdicts → ℕ → ℕ → Bool) : Type 0 where
  -- an atom that is decided is accepted exactly where it may be, after those decided before it
  pub exactly : (t : View) (veto : Veto) (before after : List ℕ) (a : ℕ) → listed a after ≡ false →
      (accepted (after_deciding t veto (before ++ a ∷ after) a) ≡ true) ↔ MayFold t veto (after_deciding t veto before) a
  pub others : (t : View) (veto : Veto) (done : List ℕ) (a : ℕ) → listed a done ≡ false → after_deciding t veto done a ≡ Undecided
  -- portions: deciding on from where one stands
  pub going_on : (t : View) (veto : Veto) (xs ys : List ℕ) → after_deciding t veto (xs ++ ys) ≡ decide t veto (after_deciding t veto xs) ys
  -- a module has lost an entry that it had exactly where its atom is accepted and covered for that entry
  pub losing : (t : View) (vs : Verdicts) (m e : ℕ) → has t m e ≡ true →
      (still_has t vs m e ≡ false) ↔ ((a : ℕ) × (atom t m ≡ Some a) × (accepted (vs a) ≡ true) × Covered t a e)
  -- and gains none
  pub gaining : (t : View) (vs : Verdicts) (m e : ℕ) → has t m e ≡ false → still_has t vs m e ≡ false
