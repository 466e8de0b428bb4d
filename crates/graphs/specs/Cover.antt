-- What paths lead to from the nodes of a row, where no edge leads from a barred node.
use Rattle.std.specs.Prelude.{◌≡◌, ℕ, ◌+◌, ◌*◌, ◌<◌, ◌≤◌, true, false, List, take, drop, slice_index}
use Rattle.rows.specs.Bits.{has}
use Rattle.reach.specs.declared.RowMarks.{RowMarks}
use Rattle.reach.specs.Paths.{Way}
use Rattle.reach.specs.Shape.{Shape}
use Rattle.graphs.specs.declared.adjacency.RowsAt.{RowsAt}
use Rattle.graphs.specs.declared.adjacency.Unless.{Unless}
use Rattle.graphs.specs.Tests.{row_shape, unless_shape}

-- the edges of such a graph, in the words
abbrev pub UnlessEdge : Unless RowsAt → List ℕ → ℕ → ℕ → Type 0
UnlessEdge g ws v w = (v < g.of.nodes) × (w < g.of.nodes) × (has ws g.barred v ≡ false) × (has ws (g.of.at + 4 * v) w ≡ true)

-- what is read stands before the marks, these before the queue, and that in `len` words
pub record CoverRoom (g : Unless RowsAt) (starts : ℕ) (row : RowMarks) (len : ℕ) : Type 0 where
  pub rows_before : g.of.at + 4 * g.of.nodes ≤ row.marks
  pub barred_before : g.barred + 4 ≤ row.marks
  pub starts_before : starts + 4 ≤ row.marks
  pub marks_before : row.marks + 4 ≤ row.queue
  pub queue_within : row.queue + g.of.nodes ≤ len

-- a path leads to e from some node of the row `starts`
abbrev pub Led : Unless RowsAt → ℕ → List ℕ → ℕ → Type 0
Led g starts ws e = (i : ℕ) × (i < g.of.nodes) × (has ws starts i ≡ true) × Way (UnlessEdge g ws) i e

-- the words that are neither of the row of marks nor of the queue of n nodes are as they were
pub record Outside (row : RowMarks) (n : ℕ) (ws vs : List ℕ) : Type 0 where
  pub below : take row.marks vs ≡ take row.marks ws
  pub between : (k : ℕ) → row.marks + 4 ≤ k → k < row.queue → slice_index vs k ≡ slice_index ws k
  pub behind : drop (row.queue + n) vs ≡ drop (row.queue + n) ws

-- the shape of such a graph
abbrev pub cover_shape : Unless RowsAt → Shape
cover_shape g = unless_shape g.barred (row_shape g.of.at g.of.nodes)
