-- Cycles, and what the search for them leaves.
use Rattle.std.specs.Prelude.{◌≡◌, ℕ, ◌+◌, List, take, drop}
use Rattle.reach.specs.Paths.{Way}
use Rattle.reach.specs.declared.Places.{Places}

-- a path of one edge or more leads from v back to v
abbrev pub Back : (ℕ → ℕ → Type 0) → ℕ → Type 0
Back edge v = (w : ℕ) × edge v w × Way edge w v

abbrev pub Cycle : (ℕ → ℕ → Type 0) → Type 0
Cycle edge = (v : ℕ) × Back edge v

-- the words before the marks and behind the queue of n nodes are as they were
pub record Scratch (p : Places) (n : ℕ) (ws vs : List ℕ) : Type 0 where
  pub below : take p.marks vs ≡ take p.marks ws
  pub behind : drop (p.queue + n) vs ≡ drop (p.queue + n) ws
