-- What a write to the marks or to the queue does to each part of the memory.
use Rattle.std.proofs.Common.{◌≡◌, ℕ, ◌+◌, ◌-◌, ◌/◌, ◌%◌, ◌^◌, ◌<◌, ◌≤◌, true, false, ◌||◌, eqb, ◌≢◌, List, length, get_or, take, drop, set, sym, refl, ap, ◌∙◌, zero-add, arith, length-drop, length-take, get_or-drop, get_or-take, take-take, drop-set-lt}
use mathlib.Core.Bool.{or-false}
use native.Mathlib.Nat.{eq_of_mul-eq-mul_left}
use lib.Bits.{bit_or}
use lib.Seq.{take-set-lt, take-set-le, drop-set-add}
use Rattle.std.proofs.lemmas.Nat.{mul-add-lt}
use Rattle.std.proofs.lemmas.Bool.{eq-eqb, ne_eqb, or_right}
use Rattle.std.proofs.lemmas.List.{get_or-set_other}
use Rattle.rows.specs.Bits.{bit, has, with_bit}
use Rattle.rows.proofs.Laws.{has-with_bit, word_with_bit}
use Rattle.reach.specs.declared.Places.{Places}
use Rattle.reach.specs.Walk.{OneMore, Found}
use Rattle.reach.specs.Memory.{marks_of, mark_bit, bit_of, marked, queue_of, Room, Spot, Frame}

module _ (ws : List ℕ) (marks queue : ℕ) where
  word_of_marks : (k : ℕ) → marks + k < queue → get_or (marks_of marks queue ws) (0 + k) 0 ≡ get_or ws (marks + k) 0
  unfolding marks_of
  word_of_marks k h =
      ap (λ j. get_or (take (queue - marks) (drop marks ws)) j 0) (zero-add k)
      ∙ get_or-take (queue - marks) (drop marks ws) k 0 (omega arith) ∙ get_or-drop marks ws k 0

  pub has_marks : (w : ℕ) → marks + w / 64 < queue → has (marks_of marks queue ws) 0 w ≡ has ws marks w
  unfolding has
  has_marks w h = ap (λ x. bit x (w % 64)) (word_of_marks (w / 64) h)

  -- a word of the marks is written
  set_marks : (k x : ℕ) → marks + k < queue → marks_of marks queue (set ws (marks + k) x) ≡ set (marks_of marks queue ws) (0 + k) x
  unfolding marks_of
  set_marks k x h =
      ap (take (queue - marks)) (drop-set-add marks ws k x) ∙ take-set-lt (queue - marks) (drop marks ws) k x (omega arith)
      ∙ ap (λ j. set (take (queue - marks) (drop marks ws)) j x) (sym (zero-add k))

  pub mark_marks : (w : ℕ) → marks + w / 64 < queue → marks_of marks queue (with_bit ws marks w) ≡ with_bit (marks_of marks queue ws) 0 w
  unfolding with_bit
  mark_marks w h =
      set_marks (w / 64) _ h
      ∙ ap (λ x. set (marks_of marks queue ws) (0 + w / 64) (bit_or x (2 ^ (w % 64)))) (sym (word_of_marks (w / 64) h))

  -- from a place in the queue on
  pub mark_behind : (w k : ℕ) → marks + w / 64 < queue → drop (queue + k) (with_bit ws marks w) ≡ drop (queue + k) ws
  unfolding with_bit
  mark_behind w k h = drop-set-lt (queue + k) ws (marks + w / 64) _ (omega arith)

  pub mark_queue : (w : ℕ) → marks + w / 64 < queue → drop queue (with_bit ws marks w) ≡ drop queue ws
  unfolding with_bit
  mark_queue w h = drop-set-lt queue ws (marks + w / 64) _ h

  pub mark_front : (w : ℕ) → take marks (with_bit ws marks w) ≡ take marks ws
  unfolding with_bit
  mark_front w = take-set-le marks ws (marks + w / 64) _ (omega arith)

  -- a word of the queue is written
  pub push_marks : (t x : ℕ) → marks ≤ queue → marks_of marks queue (set ws (queue + t) x) ≡ marks_of marks queue ws
  unfolding marks_of
  push_marks t x h =
      let at : queue + t ≡ marks + ((queue - marks) + t) = omega arith in
      ap (λ j. take (queue - marks) (drop marks (set ws j x))) at
      ∙ ap (take (queue - marks)) (drop-set-add marks ws ((queue - marks) + t) x)
      ∙ take-set-le (queue - marks) (drop marks ws) ((queue - marks) + t) x (omega arith)

  pub push_front : (t x : ℕ) → marks ≤ queue → take marks (set ws (queue + t) x) ≡ take marks ws
  push_front t x h = take-set-le marks ws (queue + t) x (omega arith)

pub length_marks : (ws : List ℕ) (marks queue : ℕ) → queue ≤ length ws → length (marks_of marks queue ws) ≡ queue - marks
unfolding marks_of
length_marks ws marks queue h = simp (length-take, length-drop) (omega arith)

-- a shorter front is kept too
pub front_kept : (ws vs : List ℕ) (n m : ℕ) → n ≤ m → take m vs ≡ take m ws → take n vs ≡ take n ws
front_kept ws vs n m h e = sym (take-take n m vs h) ∙ ap (take n) e ∙ take-take n m ws h

-- ---- places

pub spot : (p : Places) (n w len : ℕ) → Room p n len → w < n → Spot p w len
spot p n w len r h =
    let far = mul-add-lt w p.stride p.column n h r.column in
    let marks = r.marks in
    let small = r.small in
    let queue = r.queue in
    let column = r.column in
    let order = r.order in
    record {
      stride = omega arith;
      small = omega arith;
      within = omega arith;
      long = omega arith;
    }

apart : (p : Places) (u w : ℕ) → 0 < p.stride → u ≢ w → mark_bit p w ≢ mark_bit p u
apart p u w pos ne e = ne (eq_of_mul-eq-mul_left p.stride pos u w (omega arith))

-- ---- what stays

pub frame_none : (p : Places) (n : ℕ) (ws : List ℕ) → Frame p n ws ws
frame_none p n ws = record { below = refl; others = λ j h. refl; words = λ k l h. refl; behind = refl }

pub frame_then : {p : Places} {n : ℕ} {ws us vs : List ℕ} → Frame p n ws us → Frame p n us vs → Frame p n ws vs
frame_then f g = record {
  below = g.below ∙ f.below;
  others = λ j h. g.others j h ∙ f.others j h;
  words = λ k l h. g.words k l h ∙ f.words k l h;
  behind = g.behind ∙ f.behind;
}

-- ---- what `find` does

module _ (ws : List ℕ) (p : Places) (w : ℕ) (s : Spot p w (length ws)) where
  pub marked_is : marked p ws w ≡ has ws p.marks (mark_bit p w)
  unfolding marked bit_of
  marked_is = has_marks ws p.marks p.queue (mark_bit p w) s.within

  bit_mark : (j : ℕ) → bit_of p (with_bit ws p.marks (mark_bit p w)) j ≡ (bit_of p ws j || eqb (mark_bit p w) j)
  unfolding bit_of
  bit_mark j =
      let within = s.within in
      let long = s.long in
      ap (λ us. has us 0 j) (mark_marks ws p.marks p.queue (mark_bit p w) s.within)
      ∙ has-with_bit (marks_of p.marks p.queue ws) 0 (mark_bit p w) j (omega (arith, length_marks ws p.marks p.queue s.long))

  bit_stays : (j : ℕ) → mark_bit p w ≢ j → bit_of p (with_bit ws p.marks (mark_bit p w)) j ≡ bit_of p ws j
  bit_stays j ne = bit_mark j ∙ ap (◌||◌ (bit_of p ws j)) (ne_eqb (mark_bit p w) j ne) ∙ or-false (bit_of p ws j)

  module _ (tail : ℕ) (vs : List ℕ) (is : vs ≡ set (with_bit ws p.marks (mark_bit p w)) (p.queue + tail) w) where
    bit_push : (j : ℕ) → bit_of p vs j ≡ bit_of p (with_bit ws p.marks (mark_bit p w)) j
    unfolding bit_of
    bit_push j =
        let within = s.within in
        ap (λ us. has (marks_of p.marks p.queue us) 0 j) is
        ∙ ap (λ us. has us 0 j) (push_marks (with_bit ws p.marks (mark_bit p w)) p.marks p.queue tail w (omega arith))

    marks_more : OneMore (marked p ws) w (marked p vs)
    unfolding marked
    marks_more = record {
      new = bit_push (mark_bit p w) ∙ bit_mark (mark_bit p w) ∙ or_right (bit_of p ws (mark_bit p w)) _ (eq-eqb (mark_bit p w) (mark_bit p w) refl);
      others = λ u ne. bit_push (mark_bit p u) ∙ bit_stays (mark_bit p u) (apart p u w s.stride ne);
    }

    pub found_new : marked p ws w ≡ false → Found (marked p ws) (queue_of p ws) tail w (marked p vs) (queue_of p vs) (tail + 1)
    found_new h =
        let us = with_bit ws p.marks (mark_bit p w) in
        record {
          how = rw h (
            marks_more,
            ap (drop p.queue) is ∙ drop-set-add p.queue us tail w ∙ ap (λ q. set q tail w) (mark_queue ws p.marks p.queue (mark_bit p w) s.within),
            refl,
          );
        }

    pub frame_new : (n : ℕ) → w < n → tail < n → Frame p n ws vs
    frame_new n small room =
        let us = with_bit ws p.marks (mark_bit p w) in
        let within = s.within in
        record {
          below = ap (take p.marks) is ∙ push_front us p.marks p.queue tail w (omega arith) ∙ mark_front ws p.marks p.queue (mark_bit p w);
          others = λ j h. bit_push j ∙ bit_stays j (λ e. h w small (sym e));
          words = λ k l h.
              ap (λ xs. get_or xs k 0) is ∙ get_or-set_other us (p.queue + tail) k w 0 (omega arith)
              ∙ word_with_bit ws p.marks (mark_bit p w) k (λ e. h w small e);
          behind = ap (drop (p.queue + n)) is ∙ drop-set-lt (p.queue + n) us (p.queue + tail) w (omega arith)
              ∙ mark_behind ws p.marks p.queue (mark_bit p w) n s.within;
        }

  pub found_was : (tail : ℕ) → marked p ws w ≡ true → Found (marked p ws) (queue_of p ws) tail w (marked p ws) (queue_of p ws) tail
  found_was tail h = record { how = rw h (refl, refl, refl) }
