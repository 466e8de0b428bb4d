-- When rows of bits say what of a table decides where an atom is covered.
use Rattle.std.specs.Prelude.{◌≡◌, ℕ, ◌+◌, ◌*◌, ◌<◌, not, List}
use Rattle.tables.specs.View.{View, entry_count}
use Rattle.tables.specs.Flags.{dynamic}
use Rattle.definitions.specs.Cover.{imports, loads}
use Rattle.rows.specs.Bits.{has}
use Rattle.graphs.specs.declared.adjacency.RowsAt.{RowsAt}
use Rattle.graphs.specs.declared.adjacency.Unless.{Unless}

-- the rows of the graph have the entries that each entry imports, the barred row those that statically load the atom a, and the
-- row `start_row` those that are not dynamic
pub record SaysImports (t : View) (a : ℕ) (g : Unless RowsAt) (start_row : ℕ) (ws : List ℕ) : Type 0 where
  pub count : g.of.nodes ≡ entry_count t
  pub imports : (i j : ℕ) → i < g.of.nodes → j < g.of.nodes → has ws (g.of.at + 4 * i) j ≡ imports t i j
  pub loads : (i : ℕ) → i < g.of.nodes → has ws g.barred i ≡ loads t i a
  pub starts : (i : ℕ) → i < g.of.nodes → has ws start_row i ≡ not (dynamic t i)
