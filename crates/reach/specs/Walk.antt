-- What holds while a graph is walked, nodes waiting in a queue.
use Rattle.std.specs.Prelude.{◌≡◌, ℕ, ◌+◌, ◌<◌, ◌≤◌, Bool, true, ◌≢◌, ◌⊎◌, List, Some, MatchBool, Option, slice_index, slice_set}
use Rattle.rows.specs.Bits.{count}
use Rattle.reach.specs.Paths.{Way, Closed}

-- the node u stands in the queue, from `head` on
abbrev pub Waits : List ℕ → ℕ → ℕ → ℕ → Type 0
Waits queue head tail u = (k : ℕ) × (head ≤ k) × (k < tail) × (slice_index queue k ≡ u)

-- n nodes, of which `old` were marked before, are walked from `start`; `busy` is the node that is being looked at, if one is
pub record State (edge : ℕ → ℕ → Type 0) (n : ℕ) (old : ℕ → Bool) (start : ℕ) (mark : ℕ → Bool) (queue : List ℕ) (head tail : ℕ) (busy : Option ℕ) : Type 0 where
  pub order : head ≤ tail
  pub began : mark start ≡ true
  pub kept : (u : ℕ) → old u ≡ true → mark u ≡ true
  pub sound : (u : ℕ) → mark u ≡ true → (old u ≡ true) ⊎ Way edge start u
  pub queued : (k : ℕ) → k < tail → (slice_index queue k < n) × (mark (slice_index queue k) ≡ true)
  pub looked : (u : ℕ) → busy ≡ Some u → mark u ≡ true
  pub done : (u : ℕ) → mark u ≡ true → Waits queue head tail u ⊎ ((busy ≡ Some u) ⊎ ((w : ℕ) → edge u w → mark w ≡ true))

-- mark' has w and what mark has
pub record OneMore (mark : ℕ → Bool) (w : ℕ) (mark' : ℕ → Bool) : Type 0 where
  pub new : mark' w ≡ true
  pub others : (u : ℕ) → u ≢ w → mark' u ≡ mark u

-- the node w is marked and put at the queue's end, unless it was marked
pub record Found (mark : ℕ → Bool) (queue : List ℕ) (tail w : ℕ) (mark' : ℕ → Bool) (queue' : List ℕ) (tail' : ℕ) : Type 0 where
  pub how : MatchBool (mark w)
      ((mark' ≡ mark) × (queue' ≡ queue) × (tail' ≡ tail))
      (OneMore mark w mark' × (queue' ≡ slice_set queue tail w) × (tail' ≡ tail + 1))

-- what was a walk is one still
pub record Goes (edge : ℕ → ℕ → Type 0) (n : ℕ) (mark : ℕ → Bool) (queue : List ℕ) (head tail : ℕ) (busy : Option ℕ) (mark' : ℕ → Bool) (queue' : List ℕ) (head' tail' : ℕ) (busy' : Option ℕ) : Type 0 where
  pub goes : (old : ℕ → Bool) (start : ℕ) → Closed edge old
      → State edge n old start mark queue head tail busy → State edge n old start mark' queue' head' tail' busy'

-- the first i slots of v have been looked at, and their targets are marked
pub record Looked (edge : ℕ → ℕ → Type 0) (n v : ℕ) (slot : ℕ → Option ℕ) (mark : ℕ → Bool) (queue : List ℕ) (tail i : ℕ) (mark' : ℕ → Bool) (queue' : List ℕ) (tail' : ℕ) : Type 0 where
  pub few : tail' ≤ count mark' n
  pub full : (j w : ℕ) → j < i → slot j ≡ Some w → mark' w ≡ true
  pub goes : (head : ℕ) → Goes edge n mark queue head tail (Some v) mark' queue' head tail' (Some v)
