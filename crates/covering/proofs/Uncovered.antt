-- The marks of `uncovered` over rows that say a table's imports are the entries that the atom is not covered for.
use Rattle.std.proofs.Common.{◌≡◌, ℕ, ◌<◌, Bool, true, false, not, ◌&&◌, List, Decides, sym, ◌∙◌, subst, arith}
use Rattle.std.specs.Prelude.{◌↔◌, IsTrue}
use Rattle.std.proofs.Math.Bool.{not-not}
use Rattle.std.proofs.lemmas.Bool.{and_parts, and_from, not-true, not_from_false}
use Rattle.std.proofs.lemmas.Bool.Decides.{same_from_decides, Decides-at, Decides-like}
use Rattle.tables.specs.View.{View, entry_count}
use Rattle.tables.specs.Flags.{dynamic}
use Rattle.definitions.specs.Graph.{Path, Within, reaches}
use Rattle.definitions.specs.Cover.{imports, loads, open_step, covered}
use Rattle.definitions.proofs.Below.{some_below_decides}
use Rattle.definitions.proofs.Graph.{reaches_decides}
use Rattle.definitions.proofs.Cover.{imports_below}
use Rattle.graphs.specs.declared.adjacency.RowsAt.{RowsAt}
use Rattle.graphs.specs.declared.adjacency.Unless.{Unless}
use Rattle.graphs.specs.Cover.{UnlessEdge, Led}
use Rattle.covering.specs.Covering.{SaysImports}
use Rattle.covering.proofs.Ways.{path_of_way, way_of_path}

module _ (t : View) (a : ℕ) where
  pub open_within : Within (entry_count t) (open_step t a)
  unfolding open_step
  open_within i j h = imports_below t i j (and_parts _ _ h).0

  -- an entry that is not dynamic reaches e past entries that do not load the atom
  abbrev pub Opened : ℕ → Type 0
  Opened e = (i : ℕ) × (i < entry_count t) × ((dynamic t i ≡ false) × Path (open_step t a) i e)

  pub uncovered_decides : (e : ℕ) → Decides (not (covered t a e)) (Opened e)
  unfolding covered
  uncovered_decides e = Decides-at _ _ (not-not _) (some_below_decides _ _ one (entry_count t))
    where
      one : (i : ℕ) → Decides (not (dynamic t i) && reaches (entry_count t) (open_step t a) i e) ((dynamic t i ≡ false) × Path (open_step t a) i e)
      one i =
          let r = reaches_decides (entry_count t) (open_step t a) open_within i e in
          (λ h. let q = and_parts _ _ h in (not-true _ q.0, r.0 q.1), λ q. and_from _ _ (not_from_false _ q.0) (r.1 q.1))

  module _ (g : Unless RowsAt) (starts : ℕ) (ws : List ℕ) (says : SaysImports t a g starts ws) where
    abbrev n : ℕ
    n = g.of.nodes

    step_edge : (v w : ℕ) → v < n → w < n → open_step t a v w ≡ true → UnlessEdge g ws v w
    unfolding open_step
    step_edge v w l m h =
        let q = and_parts (imports t v w) (not (loads t v a)) h in
        (l, m, says.loads v l ∙ not-true (loads t v a) q.1, says.imports v w l m ∙ q.0)

    edge_step : (v w : ℕ) → UnlessEdge g ws v w → open_step t a v w ≡ true
    unfolding open_step
    edge_step v w q =
        and_from (imports t v w) (not (loads t v a)) (sym (says.imports v w q.0 q.1) ∙ q.3)
        (not_from_false (loads t v a) (sym (says.loads v q.0) ∙ q.2))

    within : Within n (open_step t a)
    within = subst (λ m. Within m (open_step t a)) (sym says.count) open_within

    pub led_opened : (e : ℕ) → Led g starts ws e → Opened e
    led_opened e d =
        let small = d.1 in
        let count = says.count in
        (d.0, omega arith, (not-true (dynamic t d.0) (sym (says.starts d.0 d.1) ∙ d.2), path_of_way edge_step d.3))

    pub opened_led : (e : ℕ) → Opened e → Led g starts ws e
    opened_led e o =
        let count = says.count in
        let below = o.1 in
        let small : o.0 < n = omega arith in
        (o.0, small, says.starts o.0 small ∙ not_from_false (dynamic t o.0) o.2.0, way_of_path n within step_edge small o.2.1)

    pub marks_uncovered : (mark : ℕ → Bool) → ((e : ℕ) → e < 256 → IsTrue (mark e) ↔ Led g starts ws e)
        → (e : ℕ) → e < n → mark e ≡ not (covered t a e)
    marks_uncovered mark led e l =
        let few = g.of.few in
        same_from_decides (mark e) (not (covered t a e)) (led e (omega arith))
        (Decides-like (not (covered t a e)) (opened_led e) (led_opened e) (uncovered_decides e))
