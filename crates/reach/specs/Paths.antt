-- Paths of a graph whose nodes are numbers, and what marks have to do with them.
use Rattle.std.specs.Prelude.{◌≡◌, ℕ, Bool, true, ◌⊎◌}

-- a path of edges, from a node to another or to itself
pub data Way (edge : ℕ → ℕ → Type 0) (from : ℕ) : ℕ → Type 0 where
  here : Way edge from from
  step : {v w : ℕ} → Way edge from v → edge v w → Way edge from w

-- each edge from a marked node leads to a marked node
abbrev pub Closed : (ℕ → ℕ → Type 0) → (ℕ → Bool) → Type 0
Closed edge mark = (v w : ℕ) → mark v ≡ true → edge v w → mark w ≡ true

-- marked is what was marked before, and what a path from `start` leads to
pub record Reached (edge : ℕ → ℕ → Type 0) (start : ℕ) (old mark : ℕ → Bool) : Type 0 where
  pub kept : (v : ℕ) → old v ≡ true → mark v ≡ true
  pub full : (v : ℕ) → Way edge start v → mark v ≡ true
  pub sound : (v : ℕ) → mark v ≡ true → (old v ≡ true) ⊎ Way edge start v
