-- The entries of a table's modules, and its atoms, in the words of a memory.
use Rattle.std.specs.Prelude.{◌≡◌, ℕ, ◌+◌, ◌*◌, ◌<◌, ◌≤◌, min, List, Ok, Err, Result, slice_index}
use Rattle.tables.specs.View.{View, module_count, entry_count}
use Rattle.rows.specs.Bits.{has as has_bit}
use Rattle.definitions.specs.Classes.{leasts}
use Rattle.definitions.specs.Bits.{has, atoms, atom, whole}
use Rattle.classes.specs.declared.RowPlaces.{RowPlaces}
use Rattle.classes.specs.declared.TooManyClasses.{TooManyClasses}
use Rattle.classes.specs.declared.atoms.AtomPlaces.{AtomPlaces}
use Rattle.classes.specs.Numbering.{stored}

-- the rows of the modules, the number of each module's atom, the least module of each atom, and the rows of the atoms, in
-- `len` words
pub record AtomRoom (at : AtomPlaces) (len : ℕ) : Type 0 where
  pub order : at.modules.rows + 4 * at.modules.count ≤ at.modules.numbers
  pub between : at.modules.numbers + at.modules.count ≤ at.modules.firsts
  pub least : at.modules.firsts + min at.modules.count 256 ≤ at.atoms
  pub last : at.atoms + 4 * min at.modules.count 256 ≤ len

-- the rows say which module has which entry
pub record SaysBits (t : View) (at : RowPlaces) (ws : List ℕ) : Type 0 where
  pub modules : at.count ≡ module_count t
  pub entries : entry_count t ≤ 256
  pub bits : (m e : ℕ) → m < at.count → e < 256 → has_bit ws (at.rows + 4 * m) e ≡ has t m e

-- the least module of atom a
abbrev pub least_module : View → ℕ → ℕ
least_module t a = slice_index (leasts (module_count t) (entry_count t) (has t)) a

pub record Atoms (t : View) (at : AtomPlaces) (count : ℕ) (vs : List ℕ) : Type 0 where
  pub modules : SaysBits t at.modules vs
  pub counts : count ≡ atoms t
  pub at_most : count ≤ 256
  pub number : (m : ℕ) → m < at.modules.count → slice_index vs (at.modules.numbers + m) ≡ stored (atom t m)
  pub first : (a : ℕ) → a < count → slice_index vs (at.modules.firsts + a) ≡ least_module t a
  pub bits : (a e : ℕ) → a < count → e < 256 → has_bit vs (at.atoms + 4 * a) e ≡ whole t a e

-- there are too many atoms, and e names the least module of atom 256
pub record PastLimit (t : View) (e : TooManyClasses) : Type 0 where
  pub many : 256 < atoms t
  pub which : e.least ≡ least_module t 256

abbrev pub Grouped : View → AtomPlaces → List ℕ → Result ℕ TooManyClasses → Type 0
Grouped t at vs (Ok count) = Atoms t at count vs
Grouped t at vs (Err e) = PastLimit t e

-- the words ws became vs: those below the numbers, between the least modules and the rows of the atoms, and behind these
-- are as they were
pub record Around (at : AtomPlaces) (ws vs : List ℕ) : Type 0 where
  pub front : (k : ℕ) → k < at.modules.numbers → slice_index vs k ≡ slice_index ws k
  pub between : (k : ℕ) → at.modules.firsts + min at.modules.count 256 ≤ k → k < at.atoms → slice_index vs k ≡ slice_index ws k
  pub behind : (k : ℕ) → at.atoms + 4 * min at.modules.count 256 ≤ k → slice_index vs k ≡ slice_index ws k
