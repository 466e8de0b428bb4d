-- The needs of `visit` and `reach`, over plain values: shapes, words and numbers.
use Rattle.std.proofs.Common.{◌≡◌, ℕ, ◌+◌, ◌-◌, ◌<◌, ◌≤◌, true, false, List, length, get_or, take, drop, Some, None, Option, sym, refl, ◌∙◌, subst, subst₂, arith, length-drop, get_or-drop}
use Rattle.rows.specs.Bits.{count}
use Rattle.rows.proofs.Counts.{count_room, count_le}
use Rattle.reach.specs.declared.Places.{Places}
use Rattle.reach.specs.declared.Slot.{Slot}
use Rattle.reach.specs.Paths.{Closed, Reached}
use Rattle.reach.specs.Shape.{Shape, EdgeIn, Edge, FirstIn, NextIn, NextSlot}
use Rattle.reach.specs.Walk.{State, Found, Goes, Looked}
use Rattle.reach.specs.Memory.{marked, queue_of, Room, Spot, Frame, Ready}
use Rattle.reach.specs.Steps.{Visited}
use Rattle.reach.proofs.Walks.{looked_none, looked_next, looked_all, found_few, found_begins, ends, walk_on}
use Rattle.reach.proofs.Parts.{front_kept, spot, frame_none, frame_then}

-- ---- a graph asked again, which means what it did, with the words below its limit as they were

pub next_same : (s s₂ : Shape) (ws ws' : List ℕ) (v from : ℕ) (r : Option Slot) → s₂ ≡ s → take s.limit ws' ≡ take s.limit ws
    → NextSlot s₂ ws' v from r → NextSlot s ws v from r
next_same s s₂ ws ws' v from r same front told =
    subst (λ us. NextIn s us v from r) front (subst (λ t. NextSlot t ws' v from r) same told)

-- the limit lies before the marks, and v is a node
pub ready_asks : {p : Places} {s s₂ : Shape} {n : ℕ} (v : ℕ) → s₂ ≡ s → Ready p s n v → (s₂.limit ≤ n) × (v < s₂.nodes)
ready_asks {p} {s} {s₂} {n} v same ready =
    let limit = ready.limit in
    let order = ready.room.order in
    let queue = ready.room.queue in
    subst (λ t. (t.limit ≤ n) × (v < t.nodes)) (sym same) (omega arith, ready.node)

-- ---- the loop over the slots of a node

-- the slots of v before `from` have been looked at: the shape was s and is s₂, the words were ws and are ws'
pub record SlotsDone (p : Places) (s : Shape) (ws : List ℕ) (v tail : ℕ) (s₂ : Shape) (ws' : List ℕ) (from end : ℕ) : Type 0 where
  pub ready : Ready p s (length ws) v
  pub same : s₂ ≡ s
  pub long : length ws' ≡ length ws
  pub looked : Looked (Edge s ws) s.nodes v (s.slot (take s.limit ws) v) (marked p ws) (queue_of p ws) tail from (marked p ws') (queue_of p ws') end
  pub frame : Frame p s.nodes ws ws'

pub slots_begin : (p : Places) (s : Shape) (ws : List ℕ) (v tail : ℕ) → Ready p s (length ws) v → tail ≤ count (marked p ws) s.nodes → SlotsDone p s ws v tail s ws 0 tail
slots_begin p s ws v tail ready few = record { ready = ready; same = refl; long = refl; looked = looked_none _ _ _ _ _ _ _ few; frame = frame_none _ _ _ }

module _ {p : Places} {s : Shape} {ws : List ℕ} {v tail : ℕ} {s₂ : Shape} {ws' : List ℕ} {from end : ℕ} (d : SlotsDone p s ws v tail s₂ ws' from end) where
  front : take s.limit ws' ≡ take s.limit ws
  front = front_kept ws ws' s.limit p.marks d.ready.limit d.frame.below

  pub slot_asks : (s₂.limit ≤ length ws') × (v < s₂.nodes)
  slot_asks = ready_asks v d.same (subst (λ n. Ready p s n v) (sym d.long) d.ready)

  -- no slot is left
  pub slots_end : NextSlot s₂ ws' v from None → Visited p s ws tail v ws' end
  slots_end told = record {
    few = d.looked.few;
    full = λ w x. looked_all d.looked _ (next_same s s₂ ws ws' v from None d.same front told) x.index w x.below x.holds;
    goes = d.looked.goes;
    frame = d.frame;
  }

  module _ (found : Slot) (told : NextSlot s₂ ws' v from (Some found)) where
    at_first : FirstIn s (take s.limit ws) v from found
    at_first = next_same s s₂ ws ws' v from (Some found) d.same front told

    inside : found.node < s.nodes
    inside = s.inside (take s.limit ws) v found.index found.node at_first.below at_first.holds

    room_in : marked p ws' found.node ≡ false → end < s.nodes
    room_in new = let few = d.looked.few in omega (arith, count_room (marked p ws') s.nodes found.node inside new)

    pub slot_spot : Spot p found.node (length ws')
    slot_spot = subst (Spot p found.node) (sym d.long) (spot p s.nodes found.node (length ws) d.ready.room inside)

    pub slot_room : marked p ws' found.node ≡ false → p.queue + end < length ws'
    slot_room new = let queue = d.ready.room.queue in let long = d.long in omega (arith, room_in new)

    pub slot_done : {s₃ : Shape} {ws'' : List ℕ} {end' : ℕ} → s₃ ≡ s₂ → length ws'' ≡ length ws'
        → Found (marked p ws') (queue_of p ws') end found.node (marked p ws'') (queue_of p ws'') end'
        → ((n : ℕ) → found.node < n → (marked p ws' found.node ≡ false → end < n) → Frame p n ws' ws'')
        → SlotsDone p s ws v tail s₃ ws'' (found.index + 1) end'
    slot_done turn long' f frame =
        let queue = d.ready.room.queue in
        let long = d.long in
        record {
          ready = d.ready;
          same = turn ∙ d.same;
          long = long' ∙ d.long;
          looked = looked_next d.looked f at_first.empty at_first.holds
              (record { node = d.ready.node; index = found.index; below = at_first.below; holds = at_first.holds })
              inside (omega (arith, length-drop p.queue ws'));
          frame = frame_then d.frame (frame s.nodes inside room_in);
        }

    -- fewer slots are left
    pub slot_less : s.slots (take s.limit ws) v - (found.index + 1) < s.slots (take s.limit ws) v - from
    slot_less = let after = at_first.after in let below = at_first.below in omega arith

-- ---- the loop over the queue

-- the nodes in the queue before `head` have been looked at
pub record Walked (p : Places) (s : Shape) (ws : List ℕ) (start : ℕ) (s₂ : Shape) (ws' : List ℕ) (head tail : ℕ) : Type 0 where
  pub ready : Ready p s (length ws) start
  pub closed : Closed (Edge s ws) (marked p ws)
  pub same : s₂ ≡ s
  pub long : length ws' ≡ length ws
  pub room : tail ≤ s.nodes
  pub few : tail ≤ count (marked p ws') s.nodes
  pub state : State (Edge s ws) s.nodes (marked p ws) start (marked p ws') (queue_of p ws') head tail None
  pub frame : Frame p s.nodes ws ws'

module _ (p : Places) (s : Shape) (ws : List ℕ) (start : ℕ) (ready : Ready p s (length ws) start) where
  pub start_spot : Spot p start (length ws)
  start_spot = spot p s.nodes start (length ws) ready.room ready.node

  pub start_room : p.queue + 0 < length ws
  start_room = let queue = ready.room.queue in let node = ready.node in omega arith

  pub walk_begins : (ws' : List ℕ) (tail : ℕ) → Closed (Edge s ws) (marked p ws) → length ws' ≡ length ws
      → Found (marked p ws) (queue_of p ws) 0 start (marked p ws') (queue_of p ws') tail
      → ((n : ℕ) → start < n → (marked p ws start ≡ false → 0 < n) → Frame p n ws ws')
      → Walked p s ws start s ws' 0 tail
  walk_begins ws' tail closed long f frame =
      let queue = ready.room.queue in
      let node = ready.node in
      let few = found_few f s.nodes ready.node (omega arith) in
      record {
        ready = ready;
        closed = closed;
        same = refl;
        long = long;
        room = omega (arith, count_le (marked p ws') s.nodes);
        few = few;
        state = found_begins (Edge s ws) s.nodes closed ready.node (omega (arith, length-drop p.queue ws)) f;
        frame = frame s.nodes ready.node (λ _. omega arith);
      }

module _ {p : Places} {s : Shape} {ws : List ℕ} {start : ℕ} {s₂ : Shape} {ws' : List ℕ} {head tail : ℕ} (d : Walked p s ws start s₂ ws' head tail) where
  pub walk_stops : tail ≤ head → Reached (Edge s ws) start (marked p ws) (marked p ws')
  walk_stops h = ends (Edge s ws) s.nodes (marked p ws) d.closed start (marked p ws') (queue_of p ws') head tail h d.state

  module _ (more : head < tail) where
    -- the node that is looked at
    abbrev pub first : ℕ
    first = get_or (drop p.queue ws') head 0

    first_is : first ≡ get_or ws' (p.queue + head) 0
    first_is = get_or-drop p.queue ws' head 0

    pub walk_asks : Ready p s₂ (length ws') (get_or ws' (p.queue + head) 0) × (tail ≤ count (marked p ws') s₂.nodes)
    walk_asks =
        subst₂ (λ t u. Ready p t (length ws') u × (tail ≤ count (marked p ws') t.nodes)) (sym d.same) first_is
        (record { node = (d.state.queued head more).0; limit = d.ready.limit; room = subst (Room p s.nodes) (sym d.long) d.ready.room }, d.few)

    pub walk_again : {s₃ : Shape} {ws'' : List ℕ} {tail' : ℕ} → s₃ ≡ s₂ → length ws'' ≡ length ws'
        → Visited p s₂ ws' tail (get_or ws' (p.queue + head) 0) ws'' tail' → Walked p s ws start s₃ ws'' (head + 1) tail'
    walk_again {ws'' = ws''} {tail' = tail'} turn long visited =
        let at : Visited p s ws' tail first ws'' tail' = subst₂ (λ t u. Visited p t ws' tail u ws'' tail') d.same (sym first_is) visited in
        let Seen : List ℕ → Type 0 =
        λ us. ((w : ℕ) → EdgeIn s us first w → marked p ws'' w ≡ true)
        × Goes (EdgeIn s us) s.nodes (marked p ws') (queue_of p ws') (head + 1) tail (Some first) (marked p ws'') (queue_of p ws'') (head + 1) tail' (Some first) in
        let seen = subst Seen (front_kept ws ws' s.limit p.marks d.ready.limit d.frame.below) (at.full, at.goes (head + 1)) in
        record {
          ready = d.ready;
          closed = d.closed;
          same = turn ∙ d.same;
          long = long ∙ d.long;
          room = omega (arith, at.few, count_le (marked p ws'') s.nodes);
          few = at.few;
          state = walk_on d.closed more d.state seen.1 seen.0;
          frame = frame_then d.frame at.frame;
        }
