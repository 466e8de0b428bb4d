-- When rows of bits say the edges of a graph.
use Rattle.std.specs.Prelude.{◌≡◌, ℕ, ◌+◌, ◌*◌, ◌<◌, ◌≤◌, Bool, true, List}
use Rattle.rows.specs.Bits.{has}
use Rattle.reach.specs.declared.RowMarks.{RowMarks}
use Rattle.graphs.specs.declared.adjacency.RowsAt.{RowsAt}

-- each edge of g leads from a node of the rows to a node, and row v of the rows has w where g leads from v to w
pub record SaysEdges (g : ℕ → ℕ → Bool) (graph : RowsAt) (ws : List ℕ) : Type 0 where
  pub within : (v w : ℕ) → g v w ≡ true → (v < graph.nodes) × (w < graph.nodes)
  pub rows : (v w : ℕ) → v < graph.nodes → w < graph.nodes → has ws (graph.at + 4 * v) w ≡ g v w

-- the rows stand before the marks, these before the queue, and that in `len` words
pub record CycleRoom (graph : RowsAt) (row : RowMarks) (len : ℕ) : Type 0 where
  pub rows_before : graph.at + 4 * graph.nodes ≤ row.marks
  pub marks_before : row.marks + 4 ≤ row.queue
  pub queue_within : row.queue + graph.nodes ≤ len
