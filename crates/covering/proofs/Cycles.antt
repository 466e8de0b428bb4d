-- A cycle in the rows is one of the graph that they say.
use Rattle.std.proofs.Common.{◌≡◌, ℕ, ◌<◌, Bool, true, List, sym, ◌∙◌}
use Rattle.std.specs.Prelude.{◌↔◌, IsTrue}
use Rattle.std.proofs.lemmas.Bool.Decides.{same_from_decides, Decides-like}
use Rattle.definitions.specs.Graph.{Cycle, cyclic}
use Rattle.definitions.proofs.Graph.{cyclic_decides}
use Rattle.reach.specs.Shape.{Edge}
use Rattle.graphs.specs.declared.adjacency.RowsAt.{RowsAt}
use Rattle.graphs.specs.Tests.{row_shape}
use Rattle.graphs.specs.Spreads.{Cycle as RowCycle}
use Rattle.graphs.proofs.Edges.{row_edge, edge_row}
use Rattle.covering.specs.Edges.{SaysEdges}
use Rattle.covering.proofs.Ways.{path_of_way, way_of_path}

module _ (g : ℕ → ℕ → Bool) (rows : RowsAt) (ws : List ℕ) (says : SaysEdges g rows ws) where
  abbrev edge : ℕ → ℕ → Type 0
  edge = Edge (row_shape rows.at rows.nodes) ws

  edge_passes : (v w : ℕ) → edge v w → g v w ≡ true
  edge_passes v w e = let q = row_edge rows.at rows.nodes rows.few ws v w e in sym (says.rows v w q.0 q.1) ∙ q.2

  passes_edge : (v w : ℕ) → v < rows.nodes → w < rows.nodes → g v w ≡ true → edge v w
  passes_edge v w l m h = edge_row rows.at rows.nodes rows.few ws v w (l, m, says.rows v w l m ∙ h)

  pub cycle_said : RowCycle edge → Cycle g
  cycle_said c = (c.0, c.1.0, edge_passes c.0 c.1.0 c.1.1, path_of_way edge_passes c.1.2)

  pub said_cycle : Cycle g → RowCycle edge
  said_cycle c =
      let l = says.within c.0 c.1 c.2 in
      (c.0, (c.1, passes_edge c.0 c.1 l.0 l.1 c.2, way_of_path rows.nodes (λ v w h. (says.within v w h).1) passes_edge l.1 c.3))

  pub answers_cyclic : (r : Bool) → IsTrue r ↔ RowCycle edge → r ≡ cyclic rows.nodes g
  answers_cyclic r d =
      same_from_decides r (cyclic rows.nodes g) (Decides-like r cycle_said said_cycle d)
      (cyclic_decides rows.nodes g (λ v w h. (says.within v w h).1) (λ v w h. (says.within v w h).0))
