-- Marks in a row of their own: places with stride 1 and column 0.
use Rattle.std.proofs.Common.{◌≡◌, ℕ, ◌+◌, ◌*◌, ◌/◌, ◌<◌, ◌≤◌, false, List, length, take, sym, ap, ◌∙◌, arith}
use Rattle.std.proofs.lemmas.Bool.{both_ways}
use Rattle.rows.specs.Bits.{has, empty_row}
use Rattle.rows.proofs.Laws.{has_front, has-empty_row}
use Rattle.reach.specs.Paths.{Closed}
use Rattle.reach.specs.Shape.{Shape, Edge}
use Rattle.reach.specs.declared.RowMarks.{RowMarks}
use Rattle.reach.specs.Memory.{bit_of, marked, row_places, Room}
use Rattle.reach.proofs.Parts.{has_marks}

-- a bit of a row as a bit of the marks
pub row_bit : (row : RowMarks) (ws : List ℕ) (j : ℕ) → row.marks + j / 64 < row.queue → bit_of (row_places row) ws j ≡ has ws row.marks j
unfolding bit_of
row_bit row ws j h = has_marks ws row.marks row.queue j h

pub row_marked : (row : RowMarks) (ws : List ℕ) (u : ℕ) → row.marks + u / 64 < row.queue → marked (row_places row) ws u ≡ has ws row.marks u
unfolding marked
row_marked row ws u h = ap (bit_of (row_places row) ws) (let e : 1 * u + 0 ≡ u = omega arith in e) ∙ row_bit row ws u h

-- a row before the words that changed
pub row_kept : (ws vs : List ℕ) (n a k : ℕ) → take n vs ≡ take n ws → a + k / 64 < n → has vs a k ≡ has ws a k
row_kept ws vs n a k same h = sym (has_front vs n a k h) ∙ ap (λ us. has us a k) same ∙ has_front ws n a k h

-- there is room for 256 nodes
pub row_room : (row : RowMarks) (n len : ℕ) → n ≤ 256 → row.marks + 4 ≤ row.queue → row.queue + n ≤ len → Room (row_places row) n len
row_room row n len few order long = record { column = omega arith; order = omega arith; marks = omega arith; small = omega arith; queue = omega arith }

-- an erased row marks no node, so no edge leads out of it
pub row_none : (row : RowMarks) (ws : List ℕ) (u : ℕ) → u < 256 → row.marks + 4 ≤ row.queue → row.marks + 4 ≤ length ws → marked (row_places row) (empty_row ws row.marks) u ≡ false
row_none row ws u small order long = row_marked row (empty_row ws row.marks) u (omega arith) ∙ has-empty_row ws row.marks u long small

pub row_closed : (s : Shape) (row : RowMarks) (ws vs : List ℕ) → s.nodes ≤ 256 → row.marks + 4 ≤ row.queue → row.marks + 4 ≤ length ws → vs ≡ empty_row ws row.marks
    → Closed (Edge s vs) (marked (row_places row) vs)
row_closed s row ws vs few order long is v w h e =
    let node = e.node in
    absurd (both_ways (marked (row_places row) vs v) (ap (λ us. marked (row_places row) us v) is ∙ row_none row ws v (omega arith) order long) h)
