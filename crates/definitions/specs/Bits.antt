-- Which module has which entry, and the atoms.
use Rattle.std.specs.Prelude.{◌≡◌, ℕ, ◌<◌, Bool, true, ◌&&◌, List, Option, nat_lt}
use Rattle.tables.specs.Below.{some_below, those_below, is}
use Rattle.definitions.specs.Graph.{reaches}
use Rattle.definitions.specs.Classes.{class, classes}
use Rattle.tables.specs.View.{View, module_count, entry_count, module_at}
use Rattle.tables.specs.Flags.{normal, included, root}

unfoldable pub usable : View → ℕ → Bool
usable t m = normal t m && included t m

-- a path of load dependencies from a module to another, on which every module, ends too, is normal and included
pub data Leads (t : View) : ℕ → ℕ → Type 0 where
  here : {m : ℕ} → usable t m ≡ true → Leads t m m
  on : {m d k : ℕ} → usable t m ≡ true → (module_at t m).loads_on d ≡ true → Leads t d k → Leads t m k

-- module m has entry e
abbrev pub Has : View → ℕ → ℕ → Type 0
Has t m e = (e < entry_count t) × Leads t (root t e) m

-- the same as a test: `has_decides` of proofs/Bits
unfoldable pub load_step : View → ℕ → ℕ → Bool
load_step t a b = usable t a && (usable t b && (module_at t a).loads_on b)

unfoldable pub has : View → ℕ → ℕ → Bool
has t m e = nat_lt e (entry_count t) && (usable t (root t e) && reaches (module_count t) (load_step t) (root t e) m)

-- the number of atoms, and the atom of a module
unfoldable pub atoms : View → ℕ
atoms t = classes (module_count t) (entry_count t) (has t)

unfoldable pub atom : View → ℕ → Option ℕ
atom t m = class (module_count t) (entry_count t) (has t) m

-- the modules of atom a, rising
unfoldable pub members : View → ℕ → List ℕ
members t a = those_below (module_count t) (λ m. is (atom t m) a)

-- the bits of an atom: atom a has entry e
unfoldable pub whole : View → ℕ → ℕ → Bool
whole t a e = some_below (module_count t) (λ m. is (atom t m) a && has t m e)

-- the host of entry e: the atom of its module
unfoldable pub host : View → ℕ → Option ℕ
host t e = atom t (root t e)
