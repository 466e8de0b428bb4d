-- Paths back to a node: the needs of the functions on cycles, over plain values.
use Rattle.std.proofs.Common.{◌≡◌, ℕ, ◌+◌, ◌-◌, ◌/◌, ◌<◌, ◌≤◌, Bool, false, List, length, get_or, take, drop, replicate, Some, None, sym, refl, ap, ◌∙◌, subst, ⊎_elim, arith, drop-drop, below_more}
use Rattle.std.specs.Prelude.{◌↔◌, IsTrue}
use Rattle.std.proofs.lemmas.List.{get_or_past, get_or-replicate, length-replicate}
use Rattle.std.proofs.lemmas.Bool.{cases_lt}
use Rattle.rows.specs.Bits.{has}
use Rattle.rows.proofs.Laws.{has_zero}
use Rattle.reach.specs.declared.Places.{Places}
use Rattle.reach.specs.declared.Slot.{Slot}
use Rattle.reach.specs.Paths.{Closed, Reached}
use Rattle.reach.specs.Shape.{Shape, EdgeIn, Edge, FirstIn, NextSlot}
use Rattle.reach.specs.Memory.{marks_of, mark_bit, bit_of, marked, Room, Spot, Frame, Ready}
use Rattle.reach.proofs.Parts.{front_kept, spot}
use Rattle.reach.proofs.Visits.{next_same, ready_asks}
use Rattle.graphs.specs.Spreads.{Back, Cycle, Scratch}
use Rattle.graphs.proofs.Spreading.{Spread, spread_none, spread_next, spread_all}

zero_read : (n i : ℕ) → ◌≡◌ {A = ℕ} (get_or (replicate n 0) i 0) 0
zero_read n i = ⊎_elim (λ (l : i < n). get_or-replicate n i 0 0 l) (λ (l : n ≤ i). get_or_past (replicate n 0) i 0 (omega (arith, length-replicate {A = ℕ} n 0))) (cases_lt i n)

-- marks in words that are all 0
pub erased : (p : Places) (n : ℕ) (ws : List ℕ) → marks_of p.marks p.queue ws ≡ replicate n 0 → (u : ℕ) → marked p ws u ≡ false
unfolding marked bit_of
erased p n ws zero u =
    ap (λ us. has us 0 (mark_bit p u)) zero ∙ has_zero (replicate n 0) 0 (mark_bit p u) (zero_read n (0 + mark_bit p u / 64))

-- ---- `on_cycle`

-- the marks have spread from the nodes in the slots of v before `from`: the shape was s and is s₂, the words were ws and are ws'
pub record SlotsSpread (p : Places) (s : Shape) (ws : List ℕ) (v : ℕ) (s₂ : Shape) (ws' : List ℕ) (from : ℕ) : Type 0 where
  pub ready : Ready p s (length ws) v
  pub same : s₂ ≡ s
  pub long : length ws' ≡ length ws
  pub within : from ≤ s.slots (take s.limit ws) v
  pub spread : Spread (Edge s ws) s.nodes (s.slot (take s.limit ws) v) from (marked p ws')
  pub scratch : Scratch p s.nodes ws ws'

drop_on : (us vs : List ℕ) (a n : ℕ) → drop a us ≡ drop a vs → drop (a + n) us ≡ drop (a + n) vs
drop_on us vs a n e = sym (drop-drop n a us) ∙ ap (drop n) e ∙ drop-drop n a vs

pub back_begins : (p : Places) (s : Shape) (ws : List ℕ) (v : ℕ) (ws' : List ℕ) → Ready p s (length ws) v → length ws' ≡ length ws
    → ((u : ℕ) → marked p ws' u ≡ false) → take p.marks ws' ≡ take p.marks ws → drop p.queue ws' ≡ drop p.queue ws → SlotsSpread p s ws v s ws' 0
back_begins p s ws v ws' ready long none below behind = record {
  ready = ready;
  same = refl;
  long = long;
  within = omega arith;
  spread = spread_none _ _ _ _ (λ v w e. e.node) (λ u _. none u);
  scratch = record { below = below; behind = drop_on ws' ws p.queue s.nodes behind };
}

module _ {p : Places} {s : Shape} {ws : List ℕ} {v : ℕ} {s₂ : Shape} {ws' : List ℕ} {from : ℕ} (d : SlotsSpread p s ws v s₂ ws' from) where
  front : take s.limit ws' ≡ take s.limit ws
  front = front_kept ws ws' s.limit p.marks d.ready.limit d.scratch.below

  pub back_asks : (s₂.limit ≤ length ws') × (v < s₂.nodes)
  back_asks = ready_asks v d.same (subst (λ n. Ready p s n v) (sym d.long) d.ready)

  pub back_spot : Spot p v (length ws')
  back_spot = subst (Spot p v) (sym d.long) (spot p s.nodes v (length ws) d.ready.room d.ready.node)

  -- no slot is left
  pub back_ends : NextSlot s₂ ws' v from None → (b : Bool) → b ≡ marked p ws' v → IsTrue b ↔ Back (Edge s ws) v
  back_ends told b is = (
    λ h.
        let q = d.spread.sound v d.ready.node (sym is ∙ h) in
        let before = q.2 in
        let within = d.within in
        (q.1, record { node = d.ready.node; index = q.0; below = omega arith; holds = q.3 }, q.4),
    λ q. is ∙ spread_all d.spread _ (next_same s s₂ ws ws' v from None d.same front told) q.1.index q.0 v q.1.below q.1.holds q.2,
  )

  module _ (found : Slot) (told : NextSlot s₂ ws' v from (Some found)) where
    at_first : FirstIn s (take s.limit ws) v from found
    at_first = next_same s s₂ ws ws' v from (Some found) d.same front told

    inside : found.node < s.nodes
    inside = s.inside (take s.limit ws) v found.index found.node at_first.below at_first.holds

    pub back_less : s.slots (take s.limit ws) v - (found.index + 1) < s.slots (take s.limit ws) v - from
    back_less = let after = at_first.after in let below = at_first.below in omega arith

    -- the shape is s₃ after the question
    module _ {s₃ : Shape} (asked : s₃ ≡ s₂) where
      pub back_ready : Ready p s₃ (length ws') found.node × Closed (Edge s₃ ws') (marked p ws')
      back_ready =
          subst (λ t. Ready p t (length ws') found.node × Closed (Edge t ws') (marked p ws')) (sym (asked ∙ d.same)) (
            record { node = inside; limit = d.ready.limit; room = subst (Room p s.nodes) (sym d.long) d.ready.room },
            subst (λ us. Closed (EdgeIn s us) (marked p ws')) (sym front) d.spread.closed,
          )

      pub back_again : {s₄ : Shape} {ws'' : List ℕ} → s₄ ≡ s₃ → length ws'' ≡ length ws'
          → Reached (Edge s₃ ws') found.node (marked p ws') (marked p ws'') → Frame p s₃.nodes ws' ws''
          → SlotsSpread p s ws v s₄ ws'' (found.index + 1)
      back_again {ws'' = ws''} walked long reached frame =
          let at = subst (λ t. Reached (Edge t ws') found.node (marked p ws') (marked p ws'') × Frame p t.nodes ws' ws'') (asked ∙ d.same) (reached, frame) in
          let below = at_first.below in
          record {
            ready = d.ready;
            same = walked ∙ asked ∙ d.same;
            long = long ∙ d.long;
            within = omega arith;
            spread = spread_next d.spread at_first.after at_first.empty at_first.holds
                (subst (λ us. Reached (EdgeIn s us) found.node (marked p ws') (marked p ws'')) front at.0);
            scratch = record { below = at.1.below ∙ d.scratch.below; behind = at.1.behind ∙ d.scratch.behind };
          }

-- ---- the loop over the nodes

-- no node before v has a path back: the shape was s and is s₂, the words were ws and are ws'
pub record Tried (p : Places) (s : Shape) (ws : List ℕ) (s₂ : Shape) (ws' : List ℕ) (v : ℕ) : Type 0 where
  pub limit : s.limit ≤ p.marks
  pub room : Room p s.nodes (length ws)
  pub same : s₂ ≡ s
  pub long : length ws' ≡ length ws
  pub none : (u : ℕ) → u < v → Back (Edge s ws) u → ⊥
  pub scratch : Scratch p s.nodes ws ws'

module _ {p : Places} {s : Shape} {ws : List ℕ} {s₂ : Shape} {ws' : List ℕ} {v : ℕ} (d : Tried p s ws s₂ ws' v) where
  pub node_ready : v < s.nodes → Ready p s₂ (length ws') v
  node_ready l =
      subst (λ t. Ready p t (length ws') v) (sym d.same)
      (record { node = l; limit = d.limit; room = subst (Room p s.nodes) (sym d.long) d.room })

  read : take s.limit ws' ≡ take s.limit ws
  read = front_kept ws ws' s.limit p.marks d.limit d.scratch.below

  back_there : Back (Edge s₂ ws') v → Back (Edge s ws) v
  back_there b = subst (λ us. Back (EdgeIn s us) v) read (subst (λ t. Back (Edge t ws') v) d.same b)

  back_here : Back (Edge s ws) v → Back (Edge s₂ ws') v
  back_here b = subst (λ t. Back (Edge t ws') v) (sym d.same) (subst (λ us. Back (EdgeIn s us) v) (sym read) b)

  pub tried_scratch : {ws'' : List ℕ} → Scratch p s₂.nodes ws' ws'' → Scratch p s.nodes ws ws''
  tried_scratch {ws'' = ws''} t =
      let u = subst (λ s. Scratch p s.nodes ws' ws'') d.same t in
      record { below = u.below ∙ d.scratch.below; behind = u.behind ∙ d.scratch.behind }

  pub tried_found : Back (Edge s₂ ws') v → Cycle (Edge s ws)
  tried_found b = (v, back_there b)

  pub tried_more : {s₃ : Shape} {ws'' : List ℕ} → s₃ ≡ s₂ → length ws'' ≡ length ws' → (Back (Edge s₂ ws') v → ⊥) → Scratch p s₂.nodes ws' ws''
      → Tried p s ws s₃ ws'' (v + 1)
  tried_more turn long here t = record {
    limit = d.limit;
    room = d.room;
    same = turn ∙ d.same;
    long = long ∙ d.long;
    none = below_more _ _ d.none (λ b. here (back_here b));
    scratch = tried_scratch t;
  }

  pub tried_all : s.nodes ≤ v → Cycle (Edge s ws) → ⊥
  tried_all past c = let node = c.1.1.node in d.none c.0 (omega arith) c.1
