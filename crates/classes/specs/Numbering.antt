-- Rows of 256 bits, numbered by their classes: a row of class a has the number a + 1, and a row without bits 0.
use Rattle.std.specs.Prelude.{◌≡◌, ℕ, ◌+◌, ◌*◌, ◌<◌, ◌≤◌, min, Bool, false, ◌⊎◌, List, Some, None, Ok, Err, Option, Result, slice_index}
use Rattle.rows.specs.Bits.{has}
use Rattle.definitions.specs.Classes.{Rows, same_row, leasts, classes, class}
use Rattle.classes.specs.declared.RowPlaces.{RowPlaces}
use Rattle.classes.specs.declared.TooManyClasses.{TooManyClasses}

-- row i of the rows that begin at word `rows` has bit k
unfoldable pub row_has : ℕ → List ℕ → ℕ → ℕ → Bool
row_has rows ws i k = has ws (rows + 4 * i) k

-- the words ws say the bits of n rows, which have none from w on
pub record SaysRows (bits : Rows) (n w rows : ℕ) (ws : List ℕ) : Type 0 where
  pub narrow : w ≤ 256
  pub bits_are : (i k : ℕ) → i < n → k < 256 → has ws (rows + 4 * i) k ≡ bits i k
  pub none : (i k : ℕ) → i < n → w ≤ k → k < 256 → bits i k ≡ false

-- the rows, then their numbers, then the least row of each class, of which there are no more than rows and at most `most`
pub record Layout (at : RowPlaces) (most len : ℕ) : Type 0 where
  pub order : at.rows + 4 * at.count ≤ at.numbers
  pub between : at.numbers + at.count ≤ at.firsts
  pub room : at.firsts + min at.count most ≤ len

-- the least row of class k is as row i
unfoldable pub same_as : RowPlaces → List ℕ → ℕ → ℕ → Bool
same_as at ws i k = same_row 256 (row_has at.rows ws) (slice_index ws (at.firsts + k)) i

-- the least rows of `count` classes are rows
abbrev pub Firsts : RowPlaces → ℕ → List ℕ → Type 0
Firsts at count ws = (k : ℕ) → k < count → slice_index ws (at.firsts + k) < at.count

-- the number of a row
abbrev pub stored : Option ℕ → ℕ
stored None = 0
stored (Some a) = a + 1

-- the first m rows are numbered, and have `count` classes
pub record Numbering (bits : Rows) (at : RowPlaces) (most m count : ℕ) (vs : List ℕ) : Type 0 where
  pub rows_are : (i k : ℕ) → i < at.count → k < 256 → row_has at.rows vs i k ≡ bits i k
  pub counts : count ≡ classes m 256 bits
  pub at_most : count ≤ most
  pub few : count ≤ m
  pub first : (a : ℕ) → a < count → slice_index vs (at.firsts + a) ≡ slice_index (leasts m 256 bits) a
  pub number : (i : ℕ) → i < m → slice_index vs (at.numbers + i) ≡ stored (class m 256 bits i)

-- the words below the numbers and behind the least rows are as they were
abbrev pub Outside : RowPlaces → ℕ → List ℕ → List ℕ → Type 0
Outside at most ws vs = (k : ℕ) → (k < at.numbers) ⊎ (at.firsts + min at.count most ≤ k) → slice_index vs k ≡ slice_index ws k

-- there are more than `most` classes, and e names the least row of class `most`
pub record Over (bits : Rows) (n most : ℕ) (e : TooManyClasses) : Type 0 where
  pub many : most < classes n 256 bits
  pub which : e.least ≡ slice_index (leasts n 256 bits) most

-- the first m rows are numbered, or have too many classes
abbrev pub Numbered : Rows → RowPlaces → ℕ → ℕ → List ℕ → Result ℕ TooManyClasses → Type 0
Numbered bits at most m vs (Ok count) = Numbering bits at most m count vs
Numbered bits at most m vs (Err e) = Over bits m most e
