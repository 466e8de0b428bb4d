-- The edges of graphs by rows, and their next slots.
use Rattle.std.proofs.Common.{◌≡◌, ℕ, ◌+◌, ◌*◌, ◌/◌, ◌<◌, ◌≤◌, max, Bool, true, false, List, take, Some, None, Option, sym, ap, ◌∙◌, subst, arith, take-take}
use Rattle.std.specs.Option.{option_map}
use native.Mathlib.Nat.{le-max_left, le-max_right}
use Rattle.std.proofs.lemmas.Option.{cond_some}
use Rattle.std.proofs.lemmas.Bool.{cond-true, cond-false}
use Rattle.rows.specs.Bits.{has, Next}
use Rattle.rows.proofs.Laws.{has_front}
use Rattle.reach.specs.declared.Slot.{Slot}
use Rattle.reach.specs.Paths.{Way, here, step}
use Rattle.reach.specs.Shape.{Shape, Edge, NextSlot}
use Rattle.graphs.specs.declared.adjacency.RowsAt.{RowsAt}
use Rattle.graphs.specs.declared.adjacency.Unless.{Unless}
use Rattle.graphs.specs.Tests.{test_shape, row_test, row_shape, RowEdge, unless_some, unless_shape}
use Rattle.graphs.specs.Cover.{UnlessEdge, cover_shape}

pub way_map : {edge other : ℕ → ℕ → Type 0} → ((v w : ℕ) → edge v w → other v w) → {a b : ℕ} → Way edge a b → Way other a b
way_map f here = here
way_map f (step {v} {w} p e) = step (way_map f p) (f v w e)

-- ---- a graph by a test

module _ (n limit : ℕ) (test : List ℕ → ℕ → ℕ → Bool) (ws : List ℕ) where
  pub test_edge : (v w : ℕ) → Edge (test_shape n limit test) ws v w → (v < n) × (w < n) × (test (take limit ws) v w ≡ true)
  unfolding test_shape
  test_edge v w e =
      let q = cond_some (test (take limit ws) v e.index) e.index w e.holds in
      (e.node, subst (λ x. x < n) q.1 e.below, subst (λ x. test (take limit ws) v x ≡ true) q.1 q.0)

  pub edge_test : (v w : ℕ) → v < n → w < n → test (take limit ws) v w ≡ true → Edge (test_shape n limit test) ws v w
  unfolding test_shape
  edge_test v w hv hw h = record { node = hv; index = w; below = hw; holds = cond-true (test (take limit ws) v w) (Some w) None h }

  -- the least number that passes the test of the words, b, is the next slot
  pub test_next : (v from : ℕ) (r : Option ℕ) (b : ℕ → Bool) → n ≤ 256 → ((k : ℕ) → k < n → test (take limit ws) v k ≡ b k)
      → Next b from n r → NextSlot (test_shape n limit test) ws v from (option_map (λ w. record { index = w; node = w }) r)
  unfolding test_shape
  test_next v from None b few same f = λ i l h. cond-false (test (take limit ws) v i) (Some i) None (same i h ∙ f i l h)
  test_next v from (Some w) b few same f = record {
    after = f.0;
    below = f.1;
    holds = cond-true (test (take limit ws) v w) (Some w) None (same w f.1 ∙ f.2);
    empty = λ i l h. let small = f.1 in cond-false (test (take limit ws) v i) (Some i) None (same i (omega arith) ∙ f.3 i l h);
    fits = let small = f.1 in omega arith;
  }

-- ---- by rows of bits

module _ (at n : ℕ) (few : n ≤ 256) (ws : List ℕ) where
  row_is : (v w : ℕ) → v < n → w < n → row_test at (take (at + 4 * n) ws) v w ≡ has ws (at + 4 * v) w
  row_is v w hv hw = has_front ws (at + 4 * n) (at + 4 * v) w (omega arith)

  pub row_edge : (v w : ℕ) → Edge (row_shape at n) ws v w → RowEdge at n ws v w
  row_edge v w e = let q = test_edge n (at + 4 * n) (row_test at) ws v w e in (q.0, q.1, sym (row_is v w q.0 q.1) ∙ q.2)

  pub edge_row : (v w : ℕ) → RowEdge at n ws v w → Edge (row_shape at n) ws v w
  edge_row v w q = edge_test n (at + 4 * n) (row_test at) ws v w q.0 q.1 (row_is v w q.0 q.1 ∙ q.2)

  pub row_next : (v from : ℕ) (r : Option ℕ) → v < n → Next (has ws (at + 4 * v)) from n r
      → NextSlot (row_shape at n) ws v from (option_map (λ w. record { index = w; node = w }) r)
  row_next v from r h f = test_next n (at + 4 * n) (row_test at) ws v from r (has ws (at + 4 * v)) few (λ k l. row_is v k h l) f

-- ---- a graph less the edges from barred nodes

module _ (barred : ℕ) (s : Shape) (ws : List ℕ) where
  abbrev limit : ℕ
  limit = max s.limit (barred + (s.nodes + 63) / 64)

  reads : take s.limit (take limit ws) ≡ take s.limit ws
  reads = take-take s.limit limit ws (le-max_left s.limit (barred + (s.nodes + 63) / 64))

  bar_is : (v : ℕ) → v < s.nodes → has (take limit ws) barred v ≡ has ws barred v
  bar_is v h = has_front ws limit barred v (omega (arith, le-max_right s.limit (barred + (s.nodes + 63) / 64)))

  slot_open : (v i : ℕ) → v < s.nodes → has ws barred v ≡ false → (unless_shape barred s).slot (take limit ws) v i ≡ s.slot (take s.limit ws) v i
  unfolding unless_shape
  slot_open v i h free = cond-false (has (take limit ws) barred v) None _ (bar_is v h ∙ free) ∙ ap (λ us. s.slot us v i) reads

  pub unless_edge : (v w : ℕ) → Edge (unless_shape barred s) ws v w → (has ws barred v ≡ false) × Edge s ws v w
  unfolding unless_shape
  unless_edge v w e =
      let q = unless_some (has (take limit ws) barred v) (s.slot (take s.limit (take limit ws)) v e.index) w e.holds in (
        sym (bar_is v e.node) ∙ q.0,
        record {
          node = e.node;
          index = e.index;
          below = subst (λ us. e.index < s.slots us v) reads e.below;
          holds = subst (λ us. s.slot us v e.index ≡ Some w) reads q.1;
        },
      )

  pub edge_unless : (v w : ℕ) → has ws barred v ≡ false → Edge s ws v w → Edge (unless_shape barred s) ws v w
  unfolding unless_shape
  edge_unless v w free e = record {
    node = e.node;
    index = e.index;
    below = subst (λ us. e.index < s.slots us v) (sym reads) e.below;
    holds = slot_open v e.index e.node free ∙ e.holds;
  }

  pub unless_next : (v from : ℕ) (r : Option Slot) → v < s.nodes → has ws barred v ≡ false → NextSlot s ws v from r → NextSlot (unless_shape barred s) ws v from r
  unfolding unless_shape
  unless_next v from None h free told = λ i l b. slot_open v i h free ∙ told i l (subst (λ us. i < s.slots us v) reads b)
  unless_next v from (Some found) h free told = record {
    after = told.after;
    below = subst (λ us. found.index < s.slots us v) (sym reads) told.below;
    holds = slot_open v found.index h free ∙ told.holds;
    empty = λ i l b. slot_open v i h free ∙ told.empty i l b;
    fits = told.fits;
  }

  pub unless_stops : (v from : ℕ) → v < s.nodes → has ws barred v ≡ true → NextSlot (unless_shape barred s) ws v from None
  unfolding unless_shape
  unless_stops v from h bar = λ i l b. cond-true (has (take limit ws) barred v) None _ (bar_is v h ∙ bar)

-- ---- rows, unless the node is barred

module _ (g : Unless RowsAt) (ws : List ℕ) where
  pub cover_edge : (v w : ℕ) → Edge (cover_shape g) ws v w → UnlessEdge g ws v w
  cover_edge v w e =
      let q = unless_edge g.barred (row_shape g.of.at g.of.nodes) ws v w e in
      let r = row_edge g.of.at g.of.nodes g.of.few ws v w q.1 in
      (r.0, r.1, q.0, r.2)

  pub edge_cover : (v w : ℕ) → UnlessEdge g ws v w → Edge (cover_shape g) ws v w
  edge_cover v w q = edge_unless g.barred (row_shape g.of.at g.of.nodes) ws v w q.2 (edge_row g.of.at g.of.nodes g.of.few ws v w (q.0, q.1, q.3))
