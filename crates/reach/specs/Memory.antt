-- A memory in three parts: what a graph reads, the marks, and the queue. The mark of node u is bit
-- `stride * u + column` of the set from `marks` to `queue`: a set of nodes has stride 1 and column 0, and column e
-- of rows of 256 bits has stride 256 and column e.
use Rattle.std.specs.Prelude.{◌≡◌, ℕ, ◌+◌, ◌-◌, ◌*◌, ◌/◌, ◌^◌, ◌<◌, ◌≤◌, Bool, List, take, drop, ◌≢◌, slice_index, slice_range}
use Rattle.rows.specs.Bits.{has}
use Rattle.reach.specs.declared.Places.{Places}
use Rattle.reach.specs.declared.RowMarks.{RowMarks}
use Rattle.reach.specs.Shape.{Shape}

unfoldable pub marks_of : ℕ → ℕ → List ℕ → List ℕ
marks_of marks queue ws = slice_range ws marks queue

abbrev pub mark_bit : Places → ℕ → ℕ
mark_bit p u = p.stride * u + p.column

-- the bits of the part with the marks
unfoldable pub bit_of : Places → List ℕ → ℕ → Bool
bit_of p ws j = has (marks_of p.marks p.queue ws) 0 j

unfoldable pub marked : Places → List ℕ → ℕ → Bool
marked p ws u = bit_of p ws (mark_bit p u)

-- marks in a row of their own: bit u is the mark of node u
abbrev pub row_places : RowMarks → Places
row_places r = record { marks = r.marks; stride = 1; column = 0; queue = r.queue }

abbrev pub queue_of : Places → List ℕ → List ℕ
queue_of p ws = drop p.queue ws

-- the places have room for n nodes in a memory of `len` words
pub record Room (p : Places) (n len : ℕ) : Type 0 where
  pub column : p.column < p.stride
  pub order : p.marks ≤ p.queue
  pub marks : p.stride * n ≤ 64 * (p.queue - p.marks)
  pub small : p.stride * n < 2 ^ 64
  pub queue : p.queue + n ≤ len

-- and for the node w
pub record Spot (p : Places) (w len : ℕ) : Type 0 where
  pub stride : 0 < p.stride
  pub small : p.stride * w + p.column < 2 ^ 64
  pub within : p.marks + (p.stride * w + p.column) / 64 < p.queue
  pub long : p.queue ≤ len

-- what a walk over n nodes leaves as it was
pub record Frame (p : Places) (n : ℕ) (ws vs : List ℕ) : Type 0 where
  pub below : take p.marks vs ≡ take p.marks ws
  pub others : (j : ℕ) → ((u : ℕ) → u < n → j ≢ mark_bit p u) → bit_of p vs j ≡ bit_of p ws j
  pub words : (k : ℕ) → k < p.queue → ((u : ℕ) → u < n → k ≢ p.marks + mark_bit p u / 64) → slice_index vs k ≡ slice_index ws k
  pub behind : drop (p.queue + n) vs ≡ drop (p.queue + n) ws

-- a walk over a graph of the shape s may begin at v, in a memory of `len` words
pub record Ready (p : Places) (s : Shape) (len v : ℕ) : Type 0 where
  pub node : v < s.nodes
  pub limit : s.limit ≤ p.marks
  pub room : Room p s.nodes len
