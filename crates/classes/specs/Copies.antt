-- The least row of each class, copied to rows of their own.
use Rattle.std.specs.Prelude.{◌≡◌, ℕ, ◌+◌, ◌*◌, ◌<◌, ◌≤◌, ◌⊎◌, List, length, slice_index}
use Rattle.rows.specs.Bits.{has}
use Rattle.classes.specs.declared.RowPlaces.{RowPlaces}
use Rattle.classes.specs.Numbering.{Firsts}

-- behind the rows and the least rows of `count` classes there are rows that these are to be copied to
pub record CopyRoom (at : RowPlaces) (count to : ℕ) (ws : List ℕ) : Type 0 where
  pub order : at.rows + 4 * at.count ≤ to
  pub between : at.firsts + count ≤ to
  pub room : to + 4 * count ≤ length ws
  pub firsts_below : Firsts at count ws

-- the words ws became vs: `count` rows are copied, and the words around them are as they were
pub record Copied (at : RowPlaces) (to count : ℕ) (ws vs : List ℕ) : Type 0 where
  pub copied : (a k : ℕ) → a < count → k < 256 → has vs (to + 4 * a) k ≡ has ws (at.rows + 4 * slice_index ws (at.firsts + a)) k
  pub outside : (k : ℕ) → (k < to) ⊎ (to + 4 * count ≤ k) → slice_index vs k ≡ slice_index ws k
