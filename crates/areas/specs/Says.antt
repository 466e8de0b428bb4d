-- What words say of a table: each part of a plan's words by the definition that it holds.
use Rattle.std.specs.Prelude.{◌≡◌, Bool, false, not, ◌||◌, List, ℕ, ◌+◌, ◌*◌, ◌<◌, ◌≤◌, slice_index}
use Rattle.tables.specs.View.{View, module_count, entry_count}
use Rattle.tables.specs.Flags.{root, dynamic}
use Rattle.rows.specs.Bits.{has as has_bit}
use Rattle.definitions.specs.Bits.{has, atom, atoms, whole, host}
use Rattle.definitions.specs.Targets.{atom_graph, cycle_graph, reach_graph}
use Rattle.definitions.specs.Cover.{loads, imports}
use Rattle.definitions.specs.Rules.{trial}
use Rattle.definitions.specs.Plan.{Veto, number}
use Rattle.definitions.specs.Prepared.{prepared}
use Rattle.classes.specs.Numbering.{stored}
use Rattle.classes.specs.Atoms.{least_module}

-- n words from `at` on say what f gives
pub record SaysWords (n : ℕ) (f : ℕ → ℕ) (at : ℕ) (ws : List ℕ) : Type 0 where
  pub said : (k : ℕ) → k < n → slice_index ws (at + k) ≡ f k

-- n rows from `at` on say what f gives
pub record SaysRows (n : ℕ) (f : ℕ → ℕ → Bool) (at : ℕ) (ws : List ℕ) : Type 0 where
  pub said : (a b : ℕ) → a < n → b < 256 → has_bit ws (at + 4 * a) b ≡ f a b

-- every bit of n rows from `at` on is clear
abbrev pub EmptyRows : ℕ → ℕ → List ℕ → Type 0
EmptyRows at n ws = SaysRows n (λ _ _. false) at ws

-- n words from `at` on are 0
abbrev pub ZeroWords : ℕ → ℕ → List ℕ → Type 0
ZeroWords at n ws = SaysWords n (λ _. 0) at ws

-- a word for each module: one more than the number of its atom, and 0 where it has none
abbrev pub SaysNumbers : View → ℕ → List ℕ → Type 0
SaysNumbers t at ws = SaysWords (module_count t) (λ m. stored (atom t m)) at ws

-- a row for each module: the entries that it has
abbrev pub SaysBits : View → ℕ → List ℕ → Type 0
SaysBits t at ws = SaysRows (module_count t) (has t) at ws

-- a word for each atom: its least module
abbrev pub SaysFirsts : View → ℕ → List ℕ → Type 0
SaysFirsts t at ws = SaysWords (atoms t) (least_module t) at ws

-- a row for each atom: the entries that it has
abbrev pub SaysWholes : View → ℕ → List ℕ → Type 0
SaysWholes t at ws = SaysRows (atoms t) (whole t) at ws

-- a row for each atom: the atoms that an edge of the cycle graph, of the reach graph, leads to
abbrev pub SaysCycles : View → ℕ → List ℕ → Type 0
SaysCycles t at ws = SaysRows (atoms t) (cycle_graph t) at ws

abbrev pub SaysReaches : View → ℕ → List ℕ → Type 0
SaysReaches t at ws = SaysRows (atoms t) (reach_graph t) at ws

-- a word for each entry: one more than the number of its host, and 0 where it has none
abbrev pub SaysHosts : View → ℕ → List ℕ → Type 0
SaysHosts t at ws = SaysWords (entry_count t) (λ e. stored (host t e)) at ws

-- a word for each entry: its module
abbrev pub SaysRoots : View → ℕ → List ℕ → Type 0
SaysRoots t at ws = SaysWords (entry_count t) (root t) at ws

-- a row for each atom: its trial bits
abbrev pub SaysTrials : View → ℕ → List ℕ → Type 0
SaysTrials t at ws = SaysRows (atoms t) (trial t) at ws

-- a row for each entry: the entries that it imports
abbrev pub SaysImports : View → ℕ → List ℕ → Type 0
SaysImports t at ws = SaysRows (entry_count t) (imports t) at ws

-- a word for each atom: the number of its verdict but for the test for cycles
abbrev pub SaysPrepared : View → Veto → ℕ → List ℕ → Type 0
SaysPrepared t veto at ws = SaysWords (atoms t) (λ a. number (prepared t veto a)) at ws

-- one row: the entries that are not dynamic
pub record SaysStarts (t : View) (at : ℕ) (ws : List ℕ) : Type 0 where
  pub these : (e : ℕ) → e < entry_count t → has_bit ws at e ≡ not (dynamic t e)
  pub no_other : (e : ℕ) → entry_count t ≤ e → e < 256 → has_bit ws at e ≡ false

-- a row for each atom: the entries that statically load it
pub record SaysLoaders (t : View) (at : ℕ) (ws : List ℕ) : Type 0 where
  pub these : (a e : ℕ) → a < atoms t → e < entry_count t → has_bit ws (at + 4 * a) e ≡ loads t e a
  pub no_other : (a e : ℕ) → a < atoms t → entry_count t ≤ e → e < 256 → has_bit ws (at + 4 * a) e ≡ false

-- the words ws became vs: in the rows of the atoms from `at` on, the edges were added that a relation of modules gives
pub record Adds (t : View) (target : ℕ → ℕ → Bool) (at : ℕ) (ws vs : List ℕ) : Type 0 where
  pub added : (a b : ℕ) → a < atoms t → b < 256 → has_bit vs (at + 4 * a) b ≡ (has_bit ws (at + 4 * a) b || atom_graph t target a b)
