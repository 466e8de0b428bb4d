-- The rows of the modules' entries in the words of a memory.
use Rattle.std.specs.Prelude.{◌≡◌, ℕ, ◌+◌, ◌*◌, ◌<◌, ◌≤◌, Bool, false, List, length, Option, slice_index}
use Rattle.tables.specs.Value.{Table}
use Rattle.tables.specs.View.{view}
use Rattle.tables.specs.Flags.{root}
use Rattle.rows.specs.Bits.{has as has_bit}
use Rattle.definitions.specs.Bits.{has}
use Rattle.reach.specs.declared.Places.{Places}
use Rattle.bits.specs.declared.ModuleRows.{ModuleRows}
use Rattle.loads.specs.Loading.{if_usable}

-- the module of entry e, if it is normal and included
abbrev pub usable_root : Table → ℕ → Option ℕ
usable_root t e = if_usable (view t) (root (view t) e)

-- bit e of each row as the marks
abbrev pub column : ModuleRows → ℕ → Places
column p e = record { marks = p.rows; stride = 256; column = e; queue = p.queue }

-- rows for n modules, and a queue for as many behind them, in `len` words
pub record Area (p : ModuleRows) (n len : ℕ) : Type 0 where
  pub few : n ≤ 4096
  pub order : p.rows + 4 * n ≤ p.queue
  pub room : p.queue + n ≤ len

-- bit e of the row of module m
abbrev pub row_has : ModuleRows → List ℕ → ℕ → ℕ → Bool
row_has p ws m e = has_bit ws (p.rows + 4 * m) e

abbrev pub NoBits : ModuleRows → ℕ → List ℕ → Type 0
NoBits p n ws = (m k : ℕ) → m < n → k < 256 → row_has p ws m k ≡ false

-- the first e entries stand in the rows, and nothing else; the words that are neither rows nor queue are as they were
pub record Filled (t : Table) (p : ModuleRows) (e : ℕ) (ws vs : List ℕ) : Type 0 where
  pub done : (m k : ℕ) → m < length t.modules → k < e → row_has p vs m k ≡ has (view t) m k
  pub rest : (m k : ℕ) → m < length t.modules → e ≤ k → k < 256 → row_has p vs m k ≡ false
  pub front : (k : ℕ) → k < p.rows → slice_index vs k ≡ slice_index ws k
  pub between : (k : ℕ) → p.rows + 4 * length t.modules ≤ k → k < p.queue → slice_index vs k ≡ slice_index ws k
  pub behind : (k : ℕ) → p.queue + length t.modules ≤ k → slice_index vs k ≡ slice_index ws k
