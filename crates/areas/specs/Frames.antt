-- Which words a phase leaves as they were.
use Rattle.std.specs.Prelude.{◌≡◌, List, ℕ, ◌+◌, ◌<◌, ◌≤◌, slice_index}

-- the words ws became vs: only those from lo on and below hi may have changed, and those from `scratch` on
pub record Changed (lo hi scratch : ℕ) (ws vs : List ℕ) : Type 0 where
  pub before : (k : ℕ) → k < lo → slice_index vs k ≡ slice_index ws k
  pub between : (k : ℕ) → hi ≤ k → k < scratch → slice_index vs k ≡ slice_index ws k

-- n words from `at` on are as they were
pub record SamePart (at n : ℕ) (ws vs : List ℕ) : Type 0 where
  pub same : (k : ℕ) → at ≤ k → k < at + n → slice_index vs k ≡ slice_index ws k
