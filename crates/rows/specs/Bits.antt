-- Sets of numbers as bits of 64-bit words, in a list of words. A set begins at a word; a row is a set of four words.
use Rattle.std.specs.Prelude.{◌≡◌, ℕ, zero, suc, ◌+◌, ◌-◌, ◌/◌, ◌%◌, ◌^◌, ◌<◌, ◌≤◌, Bool, true, false, if◌then◌else◌, ◌⊎◌, List, length, Option, MatchOption, ◌==◌, bit_and, bit_or, bit_xor, slice_index, slice_set}

-- bit k of the number w
unfoldable pub bit : ℕ → ℕ → Bool
bit w k = w / 2 ^ k % 2 == 1

-- bit i of the set that begins at word `at`: bit i % 64 of word at + i / 64
unfoldable pub has : List ℕ → ℕ → ℕ → Bool
has ws at i = bit (slice_index ws (at + i / 64)) (i % 64)

-- the words with bit i set, and with bit i cleared
unfoldable pub with_bit : List ℕ → ℕ → ℕ → List ℕ
with_bit ws at i = slice_set ws (at + i / 64) (bit_or (slice_index ws (at + i / 64)) (2 ^ (i % 64)))

unfoldable pub without_bit : List ℕ → ℕ → ℕ → List ℕ
without_bit ws at i = slice_set ws (at + i / 64) (bit_and (slice_index ws (at + i / 64)) (2 ^ 64 - 1 - 2 ^ (i % 64)))

-- the words with the four words of the row at `at` replaced
unfoldable pub put_row : List ℕ → ℕ → ℕ → ℕ → ℕ → ℕ → List ℕ
put_row ws at a b c d = slice_set (slice_set (slice_set (slice_set ws at a) (at + 1) b) (at + 2) c) (at + 3) d

-- the words with each word of the row at `to` replaced by what `op` makes of it and of the word of the row at `from`
unfoldable pub op_row : (ℕ → ℕ → ℕ) → List ℕ → ℕ → ℕ → List ℕ
op_row op ws to from =
    put_row ws to (op (slice_index ws to) (slice_index ws from)) (op (slice_index ws (to + 1)) (slice_index ws (from + 1)))
    (op (slice_index ws (to + 2)) (slice_index ws (from + 2))) (op (slice_index ws (to + 3)) (slice_index ws (from + 3)))

abbrev pub union_row : List ℕ → ℕ → ℕ → List ℕ
union_row ws to from = op_row bit_or ws to from

abbrev pub meet_row : List ℕ → ℕ → ℕ → List ℕ
meet_row ws to from = op_row bit_and ws to from

-- the bits of a that b has not
abbrev pub less : ℕ → ℕ → ℕ
less a b = bit_xor a (bit_and a b)

abbrev pub minus_row : List ℕ → ℕ → ℕ → List ℕ
minus_row ws to from = op_row less ws to from

abbrev pub copied_row : List ℕ → ℕ → ℕ → List ℕ
copied_row ws to from = op_row (λ (a b : ℕ). b) ws to from

abbrev pub empty_row : List ℕ → ℕ → List ℕ
empty_row ws at = put_row ws at 0 0 0 0

-- the words ws became vs: each word of the row at `to` is one that `Of` makes of it and of the word of the row at `from`,
-- and the other words are as they were
pub record Combined (Of : ℕ → ℕ → ℕ → Type 0) (to from : ℕ) (ws vs : List ℕ) : Type 0 where
  pub long : length vs ≡ length ws
  pub made : (k : ℕ) → k < 4 → Of (slice_index ws (to + k)) (slice_index ws (from + k)) (slice_index vs (to + k))
  pub others : (k : ℕ) → (k < to) ⊎ (to + 4 ≤ k) → slice_index vs k ≡ slice_index ws k

-- two rows have no word in common
abbrev pub Apart : ℕ → ℕ → Type 0
Apart a b = (a + 4 ≤ b) ⊎ (b + 4 ≤ a)

-- how many numbers below n pass the test f
unfoldable pub count : (ℕ → Bool) → ℕ → ℕ
count f zero = 0
count f (suc n) = count f n + (if f n then 1 else 0)

-- t is the lowest bit of w that is set
abbrev pub Lowest : ℕ → ℕ → Type 0
Lowest w t = (bit w t ≡ true) × ((k : ℕ) → k < t → bit w k ≡ false)

-- the least number from `from` on, below n, that passes the test f
abbrev pub Next : (ℕ → Bool) → ℕ → ℕ → Option ℕ → Type 0
Next f from n r =
    MatchOption r ((k : ℕ) → from ≤ k → k < n → f k ≡ false)
    (λ j. (from ≤ j) × (j < n) × (f j ≡ true) × ((k : ℕ) → from ≤ k → k < j → f k ≡ false))
