-- The bits of one number, under `|`, `&`, `!` and a mask: `bit` tests the digit that `bit_at` of std reads.
use Rattle.std.proofs.Common.{◌≡◌, ℕ, zero, suc, ◌+◌, ◌-◌, ◌*◌, ◌/◌, ◌%◌, ◌^◌, ◌<◌, ◌≤◌, false, cond, not, ◌&&◌, ◌||◌, eqb, min, max, sym, ap, ◌∙◌, ap₂, arith, pow_pos, pow-suc, zero-mul, shr-shr, inl, inr, w64}
use lib.Bits.{bit_and, bit_or, xor_lt, and_le_l}
use lib.Arith.{lt-one}
use lib.Count.{ones, ones_step}
use Rattle.std.specs.Int.{bit_at, trailing_zeros}
use Rattle.std.proofs.lemmas.Bool.{cases_eq, eq-eqb, ne_eqb}
use Rattle.std.proofs.lemmas.Bool.Decides.{nat_tests}
use Rattle.std.proofs.lemmas.Nat.Bits.{bit_at-zero, bit_at-suc, bit_at_lowest, bit_at-lt, bit_at_and, bit_at_or, bit_at_xor, bit_at_not, bit_at_above, and_pow, bit_at-pow_same, bit_at-pow_other, bit_at-trailing_zeros, same_from_bits_below}
use Rattle.rows.specs.Bits.{bit, less, Lowest, count}
use Rattle.rows.proofs.Counts.{count_same, count_first}

pub zero_bit : (k : ℕ) → bit 0 k ≡ false
unfolding bit
zero_bit k = ap (λ (x : ℕ). eqb x 1) (bit_at-zero k)

-- ---- `|`, `&`, and what a has and b has not

or_digit : (d e : ℕ) → d < 2 → e < 2 → eqb (max d e) 1 ≡ (eqb d 1 || eqb e 1)
or_digit d e hd he = grind (arith, nat_tests)

and_digit : (d e : ℕ) → d < 2 → e < 2 → eqb (min d e) 1 ≡ (eqb d 1 && eqb e 1)
and_digit d e hd he = grind (arith, nat_tests)

less_digit : (d e : ℕ) → d < 2 → e < 2 → eqb ((d + min d e) % 2) 1 ≡ (eqb d 1 && not (eqb e 1))
less_digit d e hd he = grind (arith, nat_tests)

pub bit-or : (a b k : ℕ) → bit (bit_or a b) k ≡ (bit a k || bit b k)
unfolding bit
bit-or a b k = ap (λ (x : ℕ). eqb x 1) (bit_at_or a b k) ∙ or_digit _ _ (bit_at-lt a k) (bit_at-lt b k)

pub bit-and : (a b k : ℕ) → bit (bit_and a b) k ≡ (bit a k && bit b k)
unfolding bit
bit-and a b k = ap (λ (x : ℕ). eqb x 1) (bit_at_and a b k) ∙ and_digit _ _ (bit_at-lt a k) (bit_at-lt b k)

pub bit_less : (a b k : ℕ) → bit (less a b) k ≡ (bit a k && not (bit b k))
unfolding bit
bit_less a b k =
    ap (λ (x : ℕ). eqb x 1) (bit_at_xor a (bit_and a b) k ∙ ap (λ (x : ℕ). (bit_at a k + x) % 2) (bit_at_and a b k))
    ∙ less_digit _ _ (bit_at-lt a k) (bit_at-lt b k)

-- ---- a mask, and its complement

pub bit_pow : (j k : ℕ) → bit (2 ^ j) k ≡ eqb j k
unfolding bit
bit_pow j k = elim (cases_eq j k) [
  | inl same ↦ ap (λ (x : ℕ). eqb (bit_at (2 ^ j) x) 1) (sym same) ∙ ap (λ (x : ℕ). eqb x 1) (bit_at-pow_same j) ∙ sym (eq-eqb j k same)
  | inr other ↦ ap (λ (x : ℕ). eqb x 1) (bit_at-pow_other j k (λ e. other (sym e))) ∙ sym (ne_eqb j k other)
]

-- `!a`
pub bit_not : (a k : ℕ) → a < 2 ^ 64 → k < 64 → bit (2 ^ 64 - 1 - a) k ≡ not (bit a k)
unfolding bit
bit_not a k ha hk = ap (λ (x : ℕ). eqb x 1) (bit_at_not w64 a k ha hk) ∙ flipped _ (bit_at-lt a k)
  where
    flipped : (d : ℕ) → d < 2 → eqb (1 - d) 1 ≡ not (eqb d 1)
    flipped d h = grind (arith, nat_tests)

-- what `w & mask != 0` says
pub bit_test : (w k : ℕ) → not (eqb (bit_and w (2 ^ k)) 0) ≡ bit w k
unfolding bit
bit_test w k = ap (λ (x : ℕ). not (eqb x 0)) (and_pow w k) ∙ tested _ (2 ^ k) (bit_at-lt w k) (pow_pos k)
  where
    tested : (d p : ℕ) → d < 2 → 0 < p → not (eqb (d * p) 0) ≡ eqb d 1
    tested zero p hd hp = ap (λ (x : ℕ). not (eqb x 0)) (zero-mul p)
    tested (suc zero) p hd hp = ap not (ne_eqb (1 * p) 0 (omega arith))
    tested (suc (suc d)) p hd hp = absurd (omega arith)

-- ---- a number by its bits

-- past the bits of its type a number has none
pub bit_high : (w k : ℕ) → w < 2 ^ 64 → 64 ≤ k → bit w k ≡ false
unfolding bit
bit_high w k h l = ap (λ (x : ℕ). eqb x 1) (bit_at_above w 64 k h l)

-- two numbers of 64 bits with the same bits are equal
pub same_bits : (a b : ℕ) → a < 2 ^ 64 → b < 2 ^ 64 → ((k : ℕ) → k < 64 → bit a k ≡ bit b k) → a ≡ b
unfolding bit
same_bits a b ha hb h = same_from_bits_below 64 a b ha hb (λ k l. digit _ _ (bit_at-lt a k) (bit_at-lt b k) (h k l))
  where
    digit : (d e : ℕ) → d < 2 → e < 2 → eqb d 1 ≡ eqb e 1 → d ≡ e
    digit d e hd he same = grind (arith, nat_tests)

-- `a & !b`
pub and_not : (a b : ℕ) → a < 2 ^ 64 → b < 2 ^ 64 → bit_and a (2 ^ 64 - 1 - b) ≡ less a b
and_not a b ha hb =
    same_bits (bit_and a (2 ^ 64 - 1 - b)) (less a b) (omega (arith, and_le_l a (2 ^ 64 - 1 - b))) (xor_lt 64 a (bit_and a b) ha (omega (arith, and_le_l a b)))
    (λ k l. bit-and a (2 ^ 64 - 1 - b) k ∙ ap (◌&&◌ (bit a k)) (bit_not b k hb l) ∙ sym (bit_less a b k))

-- `w >> s`
pub bit_shr : (w s k : ℕ) → bit (w / 2 ^ s) k ≡ bit w (s + k)
unfolding bit
bit_shr w s k = ap (λ (x : ℕ). eqb (x % 2) 1) (shr-shr w s k)

-- what `trailing_zeros` answers
pub lowest : (w : ℕ) → 0 < w → w < 2 ^ 64 → Lowest w (trailing_zeros w64 w)
unfolding bit
lowest w some h =
    let q = bit_at-trailing_zeros w64 w some h in
    (ap (λ (x : ℕ). eqb x 1) q.1, λ k l. ap (λ (x : ℕ). eqb x 1) (q.2 k l))

-- ---- how many bits are set

bit_later : (w k : ℕ) → bit w (suc k) ≡ bit (w / 2) k
unfolding bit
bit_later w k = ap (λ (x : ℕ). eqb x 1) (bit_at-suc w k)

bit_first : (w : ℕ) → w % 2 ≡ cond (bit w 0) 1 0
unfolding bit
bit_first w = sym (bit_at_lowest w) ∙ digit _ (bit_at-lt w 0)
  where
    digit : (d : ℕ) → d < 2 → d ≡ cond (eqb d 1) 1 0
    digit d l = grind (arith, nat_tests)

-- what `count_ones` answers
pub ones_count : (n w : ℕ) → w < 2 ^ n → ones w ≡ count (bit w) n
unfolding ones count
ones_count zero w h = ap ones (lt-one h)
ones_count (suc n) w h =
    let high : ones (w / 2) ≡ count (λ k. bit w (suc k)) n =
    ones_count n (w / 2) (omega (arith, pow-suc 2 n)) ∙ count_same (bit (w / 2)) (λ k. bit w (suc k)) n (λ k _. sym (bit_later w k)) in
    ones_step w ∙ ap₂ ◌+◌ (bit_first w) high ∙ sym (count_first (bit w) n)
