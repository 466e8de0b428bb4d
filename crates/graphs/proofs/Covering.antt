-- The needs of `uncovered`, over plain values.
use Rattle.std.proofs.Common.{◌≡◌, ℕ, ◌+◌, ◌/◌, ◌<◌, ◌≤◌, false, List, length, get_or, take, drop, Some, None, sym, ap, ◌∙◌, subst, inr, ⊎_elim, arith}
use Rattle.std.specs.Prelude.{◌↔◌, IsTrue}
use Rattle.std.proofs.lemmas.Option.{cond_some}
use Rattle.std.proofs.lemmas.Bool.{cases_lt, both_ways, cond-true, cond-false}
use Rattle.rows.specs.Bits.{has, empty_row, Next}
use Rattle.rows.specs.declared.iter.Members.{Members}
use Rattle.rows.specs.Gives.{Gives, GivesNext}
use Rattle.rows.proofs.Laws.{has-empty_row, front_put_row, word_put_row, behind_put_row}
use Rattle.rows.proofs.Gives.{gives_some, gives_none}
use Rattle.reach.specs.Paths.{Way, Closed, Reached}
use Rattle.reach.specs.Shape.{Shape, EdgeIn, Edge}
use Rattle.reach.specs.declared.RowMarks.{RowMarks}
use Rattle.reach.specs.Memory.{marked, row_places, Frame, Ready}
use Rattle.reach.proofs.Parts.{front_kept}
use Rattle.graphs.specs.declared.adjacency.RowsAt.{RowsAt}
use Rattle.graphs.specs.declared.adjacency.Unless.{Unless}
use Rattle.graphs.specs.Tests.{held, test_shape, unless_shape}
use Rattle.graphs.specs.Cover.{UnlessEdge, CoverRoom, Led, Outside, cover_shape}
use Rattle.graphs.proofs.Marks.{row_bit, row_marked, row_kept, row_room}
use Rattle.graphs.proofs.Edges.{way_map, cover_edge, edge_cover}
use Rattle.graphs.proofs.Spreading.{Spread, spread_none, spread_next, spread_all, way_inside}

-- the starts before `from` are done, and m gives those after them: the words were ws, and are ws'
pub record StartsDone (g : Unless RowsAt) (starts : ℕ) (row : RowMarks) (ws ws' : List ℕ) (m : Members) : Type 0 where
  pub from : ℕ
  pub left : Gives (has ws starts) from g.of.nodes m
  pub room : CoverRoom g starts row (length ws)
  pub long : length ws' ≡ length ws
  pub within : from ≤ g.of.nodes
  pub spread : Spread (Edge (cover_shape g) ws) g.of.nodes (λ j. held (has ws starts j) j) from (marked (row_places row) ws')
  pub others : (e : ℕ) → g.of.nodes ≤ e → e < 256 → has ws' row.marks e ≡ false
  pub outside : Outside row g.of.nodes ws ws'

module _ (g : Unless RowsAt) (starts : ℕ) (row : RowMarks) (ws : List ℕ) (room : CoverRoom g starts row (length ws)) where
  limit_fits : (cover_shape g).limit ≤ row.marks
  unfolding test_shape unless_shape
  limit_fits = let a = room.rows_before in let b = room.barred_before in let c = g.of.few in omega arith

  inner : (u : ℕ) → u < 256 → row.marks + u / 64 < row.queue
  inner u l = let a = room.marks_before in omega arith

  pub cover_asks : starts + 4 ≤ length ws
  cover_asks = let a = room.starts_before in let b = room.marks_before in let c = room.queue_within in omega arith

  -- the row of the marks is erased
  module _ (ws' : List ℕ) (is : ws' ≡ empty_row ws row.marks) where
    none : (u : ℕ) → u < 256 → has ws' row.marks u ≡ false
    none u l =
        let a = room.marks_before in
        let b = room.queue_within in
        ap (λ us. has us row.marks u) is ∙ has-empty_row ws row.marks u (omega arith) l

    below : take row.marks ws' ≡ take row.marks ws
    below = ap (take row.marks) is ∙ front_put_row ws row.marks 0 0 0 0 row.marks (omega arith)

    pub cover_begins : {m : Members} → length ws' ≡ length ws → Gives (has ws' starts) 0 g.of.nodes m → StartsDone g starts row ws ws' m
    unfolding test_shape unless_shape
    cover_begins long left = record {
      from = 0;
      left = record {
        test = λ i l. let a = room.starts_before in left.test i l ∙ row_kept ws ws' row.marks starts i below (omega arith);
        begin = left.begin;
        end = left.end;
      };
      room = room;
      long = long;
      within = omega arith;
      spread = spread_none _ g.of.nodes _ _ (λ v w e. e.node)
          (λ u l. let few = g.of.few in let small : u < 256 = omega arith in row_marked row ws' u (inner u small) ∙ none u small);
      others = λ e _ l. none e l;
      outside = record {
        below = below;
        between = λ k a b. ap (λ us. get_or us k 0) is ∙ word_put_row ws row.marks 0 0 0 0 k (inr a);
        behind = let a = room.marks_before in ap (drop (row.queue + g.of.nodes)) is ∙ behind_put_row ws row.marks 0 0 0 0 (row.queue + g.of.nodes) (omega arith);
      };
    }

module _ {g : Unless RowsAt} {starts : ℕ} {row : RowMarks} {ws ws' : List ℕ} {m : Members} (d : StartsDone g starts row ws ws' m) where
  abbrev shape : Shape
  shape = cover_shape g

  abbrev n : ℕ
  n = g.of.nodes

  read : take shape.limit ws' ≡ take shape.limit ws
  read = front_kept ws ws' shape.limit row.marks (limit_fits g starts row ws d.room) d.outside.below

  module _ {i : ℕ} {m' : Members} (told : GivesNext m (Some i) m') where
    abbrev found : Next (has ws starts) d.from n (Some i) × Gives (has ws starts) (i + 1) n m'
    found = gives_some g.of.few d.left told

    pub cover_ready : Ready (row_places row) shape (length ws') i × Closed (Edge shape ws') (marked (row_places row) ws')
    unfolding test_shape unless_shape
    cover_ready =
        let b = d.room.queue_within in
        let long = d.long in (
          record {
            node = found.0.1;
            limit = limit_fits g starts row ws d.room;
            room = row_room row n (length ws') g.of.few d.room.marks_before (omega arith);
          },
          subst (λ us. Closed (EdgeIn shape us) (marked (row_places row) ws')) (sym read) d.spread.closed,
        )

    pub cover_again : {ws'' : List ℕ} → length ws'' ≡ length ws' → Reached (Edge shape ws') i (marked (row_places row) ws') (marked (row_places row) ws'')
        → Frame (row_places row) shape.nodes ws' ws'' → StartsDone g starts row ws ws'' m'
    unfolding test_shape unless_shape
    cover_again {ws'' = ws''} long reached frame =
        let (after, small, is, none) = found.0 in
        record {
          from = i + 1;
          left = found.1;
          room = d.room;
          long = long ∙ d.long;
          within = omega arith;
          spread = spread_next d.spread after
              (λ j a b. cond-false (has ws starts j) (Some j) None (none j a b))
              (cond-true (has ws starts i) (Some i) None is)
              (subst (λ us. Reached (EdgeIn shape us) i (marked (row_places row) ws') (marked (row_places row) ws'')) read reached);
          others = λ e big l.
              let within = inner g starts row ws d.room e l in
              sym (row_bit row ws'' e within) ∙ frame.others e (λ u below same. omega arith) ∙ row_bit row ws' e within ∙ d.others e big l;
          outside = record {
            below = frame.below ∙ d.outside.below;
            between = λ k a b. let few = g.of.few in frame.words k b (λ u l e. omega arith) ∙ d.outside.between k a b;
            behind = frame.behind ∙ d.outside.behind;
          };
        }

  -- no start is left
  pub cover_led : {m' : Members} → GivesNext m None m' → (e : ℕ) → e < 256 → IsTrue (has ws' row.marks e) ↔ Led g starts ws e
  unfolding test_shape unless_shape
  cover_led told e l = ⊎_elim (λ (small : e < n). node small) (λ (big : n ≤ e). other big) (cases_lt e n)
    where
      there : {a b : ℕ} → Way (Edge shape ws) a b → Way (UnlessEdge g ws) a b
      there p = way_map (cover_edge g ws) p

      back : {a b : ℕ} → Way (UnlessEdge g ws) a b → Way (Edge shape ws) a b
      back p = way_map (edge_cover g ws) p

      node : e < n → IsTrue (has ws' row.marks e) ↔ Led g starts ws e
      node small =
          let mark = row_marked row ws' e (inner g starts row ws d.room e l) in (
            λ h.
                let q = d.spread.sound e small (mark ∙ h) in
                let t = cond_some (has ws starts q.0) q.0 q.1 q.3 in
                let below : q.0 < n = (let a = q.2 in let b = d.within in omega arith) in
                (q.0, below, t.0, there (subst (λ x. Way (Edge shape ws) x e) (sym t.1) q.4)),
            λ p.
                sym mark
                ∙ spread_all d.spread n (λ j a b. cond-false (has ws starts j) (Some j) None (gives_none g.of.few d.left told j a b))
                p.0 p.0 e p.1 (cond-true (has ws starts p.0) (Some p.0) None p.2) (back p.3),
          )

      other : n ≤ e → IsTrue (has ws' row.marks e) ↔ Led g starts ws e
      other big = (
        λ h. absurd (both_ways (has ws' row.marks e) (d.others e big l) h),
        λ p. absurd (let inside = way_inside shape ws p.1 (back p.3) in omega arith),
      )
