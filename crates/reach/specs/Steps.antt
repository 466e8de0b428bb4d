-- What a walk over a graph of the shape s does to the words of a memory, and what each step of it does.
use Rattle.std.specs.Prelude.{◌≡◌, ℕ, ◌≤◌, true, List, Some}
use Rattle.rows.specs.Bits.{count}
use Rattle.reach.specs.declared.Places.{Places}
use Rattle.reach.specs.Paths.{Closed, Reached}
use Rattle.reach.specs.Shape.{Shape, Edge}
use Rattle.reach.specs.Walk.{Found, Goes}
use Rattle.reach.specs.Memory.{marked, queue_of, Frame}

-- the marks are closed under the edges
abbrev pub MarksClosed : Places → Shape → List ℕ → Type 0
MarksClosed p s ws = Closed (Edge s ws) (marked p ws)

-- what can be reached from `start` is marked, and what was marked before: the words were ws, and are vs
abbrev pub MarksReached : Places → Shape → ℕ → List ℕ → List ℕ → Type 0
MarksReached p s start ws vs = Reached (Edge s ws) start (marked p ws) (marked p vs)

-- the node w is marked and put at the queue's end, unless it was marked
abbrev pub FoundNode : Places → ℕ → ℕ → List ℕ → List ℕ → ℕ → Type 0
FoundNode p tail w ws vs end = Found (marked p ws) (queue_of p ws) tail w (marked p vs) (queue_of p vs) end

-- each node that an edge from v leads to is marked, what was a walk is one still, and what is not the walk's stays
pub record Visited (p : Places) (s : Shape) (ws : List ℕ) (tail v : ℕ) (vs : List ℕ) (end : ℕ) : Type 0 where
  pub few : end ≤ count (marked p vs) s.nodes
  pub full : (w : ℕ) → Edge s ws v w → marked p vs w ≡ true
  pub goes : (head : ℕ) → Goes (Edge s ws) s.nodes (marked p ws) (queue_of p ws) head tail (Some v) (marked p vs) (queue_of p vs) head end (Some v)
  pub frame : Frame p s.nodes ws vs
