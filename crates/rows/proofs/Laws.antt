-- What each change of the words does to the sets in them, and what it leaves. For a change C:
--     has-C             what the set has after it, for every number
--     has-C-itself, has-C-other     the same, for the number that is put in or taken out, and for any other
--     has-C-elsewhere   a bit of another word
--     has-C-apart       a row that has no word in common with the changed one
--     word-C, length-C  the words that are not changed, and how many there are
--     front-C, behind-C     the words before the changed ones, and behind them
use Rattle.std.proofs.Common.{◌≡◌, ℕ, zero, suc, ◌+◌, ◌-◌, ◌/◌, ◌%◌, ◌^◌, ◌<◌, ◌≤◌, Bool, true, false, not, ◌&&◌, ◌||◌, eqb, ◌≢◌, ◌⊎◌, List, length, get_or, take, drop, set, sym, refl, ap, ◌∙◌, ap₂, inl, inr, ⊎_elim, add-zero, arith, get_or-take, drop-set-lt}
use lib.Bits.{bit_and, bit_or}
use lib.Seq.{take-set-le}
use Rattle.std.proofs.lemmas.List.{length-set, get_or-set_same, get_or-set_other, get_or_past}
use Rattle.std.proofs.lemmas.Bool.{cases_eq, eq-eqb, ne_eqb, or_right, and_right}
use Rattle.std.proofs.lemmas.Bool.Decides.{nat_tests}
use Rattle.std.proofs.lemmas.Nat.{pow_below}
use Rattle.rows.specs.Bits.{bit, has, with_bit, without_bit, put_row, op_row, less, union_row, meet_row, minus_row, copied_row, empty_row, Apart}
use Rattle.rows.proofs.Digits.{bit-or, bit-and, bit_less, bit_pow, bit_not, zero_bit}

-- ---- any words

-- a bit of a set depends on its own word only
pub has_frame : (ws vs : List ℕ) (at i : ℕ) → get_or ws (at + i / 64) 0 ≡ get_or vs (at + i / 64) 0 → has ws at i ≡ has vs at i
unfolding has
has_frame ws vs at i e = ap (λ (x : ℕ). bit x (i % 64)) e

-- in the first n words
pub has_front : (ws : List ℕ) (n at i : ℕ) → at + i / 64 < n → has (take n ws) at i ≡ has ws at i
has_front ws n at i h = has_frame (take n ws) ws at i (get_or-take n ws (at + i / 64) 0 h)

-- a word of zeros has no bit
pub has_zero : (ws : List ℕ) (at i : ℕ) → get_or ws (at + i / 64) 0 ≡ 0 → has ws at i ≡ false
unfolding has
has_zero ws at i e = ap (λ (x : ℕ). bit x (i % 64)) e ∙ zero_bit (i % 64)

-- past the last word a set has nothing
pub has_past : (ws : List ℕ) (at i : ℕ) → length ws ≤ at + i / 64 → has ws at i ≡ false
has_past ws at i h = has_zero ws at i (get_or_past ws (at + i / 64) 0 h)

-- ---- one word changed

eqb_parts : (i j : ℕ) → j / 64 ≡ i / 64 → eqb i j ≡ eqb (i % 64) (j % 64)
eqb_parts i j h = grind (arith, nat_tests)

changed : (ws : List ℕ) (at i v j : ℕ) (F : Bool → Bool → Bool) → at + i / 64 < length ws
    → ((b : Bool) → F b false ≡ b)
    → ((k : ℕ) → k < 64 → bit v k ≡ F (bit (get_or ws (at + i / 64) 0) k) (eqb (i % 64) k))
    → has (set ws (at + i / 64) v) at j ≡ F (has ws at j) (eqb i j)
unfolding has
changed ws at i v j F h keeps here =
    ⊎_elim
    (λ (same : j / 64 ≡ i / 64).
    ap (λ (q : ℕ). bit (get_or (set ws (at + i / 64) v) (at + q) 0) (j % 64)) same
    ∙ ap (λ (x : ℕ). bit x (j % 64)) (get_or-set_same ws (at + i / 64) v 0 h)
    ∙ here (j % 64) (omega arith)
    ∙ ap₂ F (ap (λ (q : ℕ). bit (get_or ws (at + q) 0) (j % 64)) (sym same)) (sym (eqb_parts i j same)))
    (λ (other : j / 64 ≡ i / 64 → ⊥).
    ap (λ (x : ℕ). bit x (j % 64)) (get_or-set_other ws (at + i / 64) (at + j / 64) v 0 (omega arith))
    ∙ sym (keeps (bit (get_or ws (at + j / 64) 0) (j % 64)))
    ∙ ap (F (bit (get_or ws (at + j / 64) 0) (j % 64))) (sym (ne_eqb i j (λ e. other (ap (λ (x : ℕ). x / 64) (sym e))))))
    (cases_eq (j / 64) (i / 64))

or-false : (b : Bool) → (b || false) ≡ b
or-false b = grind arith

and_true : (b : Bool) → (b && not false) ≡ b
and_true b = grind arith

-- ---- a number put in

module _ (ws : List ℕ) (at i : ℕ) where
  pub length-with_bit : length (with_bit ws at i) ≡ length ws
  unfolding with_bit
  length-with_bit = length-set ws (at + i / 64) _

  pub word_with_bit : (k : ℕ) → k ≢ at + i / 64 → get_or (with_bit ws at i) k 0 ≡ get_or ws k 0
  unfolding with_bit
  word_with_bit k h = get_or-set_other ws (at + i / 64) k _ 0 h

  pub front_with_bit : (n : ℕ) → n ≤ at + i / 64 → take n (with_bit ws at i) ≡ take n ws
  unfolding with_bit
  front_with_bit n h = take-set-le n ws (at + i / 64) _ h

  pub behind_with_bit : (n : ℕ) → at + i / 64 < n → drop n (with_bit ws at i) ≡ drop n ws
  unfolding with_bit
  behind_with_bit n h = drop-set-lt n ws (at + i / 64) _ h

  pub has-with_bit : (j : ℕ) → at + i / 64 < length ws → has (with_bit ws at i) at j ≡ (has ws at j || eqb i j)
  unfolding with_bit
  has-with_bit j h =
      changed ws at i (bit_or (get_or ws (at + i / 64) 0) (2 ^ (i % 64))) j ◌||◌ h or-false
      (λ k l. bit-or (get_or ws (at + i / 64) 0) (2 ^ (i % 64)) k ∙ ap (◌||◌ (bit (get_or ws (at + i / 64) 0) k)) (bit_pow (i % 64) k))

  pub has-with_bit_itself : at + i / 64 < length ws → has (with_bit ws at i) at i ≡ true
  has-with_bit_itself h = has-with_bit i h ∙ or_right (has ws at i) (eqb i i) (eq-eqb i i refl)

  pub has-with_bit_other : (j : ℕ) → i ≢ j → at + i / 64 < length ws → has (with_bit ws at i) at j ≡ has ws at j
  has-with_bit_other j ne h = has-with_bit j h ∙ ap (◌||◌ (has ws at j)) (ne_eqb i j ne) ∙ or-false (has ws at j)

  pub has-with_bit_elsewhere : (to j : ℕ) → to + j / 64 ≢ at + i / 64 → has (with_bit ws at i) to j ≡ has ws to j
  has-with_bit_elsewhere to j ne = has_frame (with_bit ws at i) ws to j (word_with_bit (to + j / 64) ne)

  pub has-with_bit_apart : (to j : ℕ) → Apart at to → i < 256 → j < 256 → has (with_bit ws at i) to j ≡ has ws to j
  has-with_bit_apart to j apart hi hj = has-with_bit_elsewhere to j (omega arith)

-- ---- a number taken out

module _ (ws : List ℕ) (at i : ℕ) where
  pub length-without_bit : length (without_bit ws at i) ≡ length ws
  unfolding without_bit
  length-without_bit = length-set ws (at + i / 64) _

  pub word_without_bit : (k : ℕ) → k ≢ at + i / 64 → get_or (without_bit ws at i) k 0 ≡ get_or ws k 0
  unfolding without_bit
  word_without_bit k h = get_or-set_other ws (at + i / 64) k _ 0 h

  pub front_without_bit : (n : ℕ) → n ≤ at + i / 64 → take n (without_bit ws at i) ≡ take n ws
  unfolding without_bit
  front_without_bit n h = take-set-le n ws (at + i / 64) _ h

  pub behind_without_bit : (n : ℕ) → at + i / 64 < n → drop n (without_bit ws at i) ≡ drop n ws
  unfolding without_bit
  behind_without_bit n h = drop-set-lt n ws (at + i / 64) _ h

  pub has-without_bit : (j : ℕ) → at + i / 64 < length ws → has (without_bit ws at i) at j ≡ (has ws at j && not (eqb i j))
  unfolding without_bit
  has-without_bit j h =
      changed ws at i (bit_and (get_or ws (at + i / 64) 0) (2 ^ 64 - 1 - 2 ^ (i % 64))) j (λ b e. b && not e) h and_true
      (λ k l. bit-and (get_or ws (at + i / 64) 0) (2 ^ 64 - 1 - 2 ^ (i % 64)) k
      ∙ ap (◌&&◌ (bit (get_or ws (at + i / 64) 0) k)) (bit_not (2 ^ (i % 64)) k (pow_below (i % 64) 64 (omega arith)) l ∙ ap not (bit_pow (i % 64) k)))

  pub has-without_bit_itself : at + i / 64 < length ws → has (without_bit ws at i) at i ≡ false
  has-without_bit_itself h = has-without_bit i h ∙ and_right (has ws at i) (not (eqb i i)) (ap not (eq-eqb i i refl))

  pub has-without_bit_other : (j : ℕ) → i ≢ j → at + i / 64 < length ws → has (without_bit ws at i) at j ≡ has ws at j
  has-without_bit_other j ne h = has-without_bit j h ∙ ap (λ e. has ws at j && not e) (ne_eqb i j ne) ∙ and_true (has ws at j)

  pub has-without_bit_elsewhere : (to j : ℕ) → to + j / 64 ≢ at + i / 64 → has (without_bit ws at i) to j ≡ has ws to j
  has-without_bit_elsewhere to j ne = has_frame (without_bit ws at i) ws to j (word_without_bit (to + j / 64) ne)

  pub has-without_bit_apart : (to j : ℕ) → Apart at to → i < 256 → j < 256 → has (without_bit ws at i) to j ≡ has ws to j
  has-without_bit_apart to j apart hi hj = has-without_bit_elsewhere to j (omega arith)

-- ---- a row replaced: the laws of `empty_row` too

module _ (ws : List ℕ) (at a b c d : ℕ) where
  pub length-put_row : length (put_row ws at a b c d) ≡ length ws
  unfolding put_row
  length-put_row = simp length-set

  pub word_put_row : (k : ℕ) → (k < at) ⊎ (at + 4 ≤ k) → get_or (put_row ws at a b c d) k 0 ≡ get_or ws k 0
  unfolding put_row
  word_put_row k h = grind (arith, get_or-set_other)

  pub front_put_row : (n : ℕ) → n ≤ at → take n (put_row ws at a b c d) ≡ take n ws
  unfolding put_row
  front_put_row n h =
      take-set-le n _ (at + 3) d (omega arith) ∙ take-set-le n _ (at + 2) c (omega arith)
      ∙ take-set-le n _ (at + 1) b (omega arith) ∙ take-set-le n ws at a h

  pub behind_put_row : (n : ℕ) → at + 4 ≤ n → drop n (put_row ws at a b c d) ≡ drop n ws
  unfolding put_row
  behind_put_row n h =
      drop-set-lt n _ (at + 3) d (omega arith) ∙ drop-set-lt n _ (at + 2) c (omega arith)
      ∙ drop-set-lt n _ (at + 1) b (omega arith) ∙ drop-set-lt n ws at a (omega arith)

  pub has-put_row_elsewhere : (to j : ℕ) → (to + j / 64 < at) ⊎ (at + 4 ≤ to + j / 64) → has (put_row ws at a b c d) to j ≡ has ws to j
  has-put_row_elsewhere to j h = has_frame (put_row ws at a b c d) ws to j (word_put_row (to + j / 64) h)

  pub has-put_row_apart : (to j : ℕ) → Apart at to → j < 256 → has (put_row ws at a b c d) to j ≡ has ws to j
  has-put_row_apart to j apart h = has-put_row_elsewhere to j (outside apart)
    where
      outside : Apart at to → (to + j / 64 < at) ⊎ (at + 4 ≤ to + j / 64)
      outside (inl l) = inr (omega arith)
      outside (inr l) = inl (omega arith)

  module _ (fits : at + 4 ≤ length ws) where
    put_0 : get_or (put_row ws at a b c d) at 0 ≡ a
    unfolding put_row
    put_0 = grind (arith, get_or-set_other, get_or-set_same, length-set {A = ℕ})

    put_1 : get_or (put_row ws at a b c d) (at + 1) 0 ≡ b
    unfolding put_row
    put_1 = grind (arith, get_or-set_other, get_or-set_same, length-set {A = ℕ})

    put_2 : get_or (put_row ws at a b c d) (at + 2) 0 ≡ c
    unfolding put_row
    put_2 = grind (arith, get_or-set_other, get_or-set_same, length-set {A = ℕ})

    put_3 : get_or (put_row ws at a b c d) (at + 3) 0 ≡ d
    unfolding put_row
    put_3 = grind (arith, get_or-set_other, get_or-set_same, length-set {A = ℕ})

-- ---- a row joined with another: `union_row`, `meet_row`, `minus_row` and `copied_row` by their op

module _ (op : ℕ → ℕ → ℕ) (ws : List ℕ) (to from : ℕ) where
  pub length_op_row : length (op_row op ws to from) ≡ length ws
  unfolding op_row
  length_op_row = length-put_row ws to _ _ _ _

  pub word_op_row : (k : ℕ) → (k < to) ⊎ (to + 4 ≤ k) → get_or (op_row op ws to from) k 0 ≡ get_or ws k 0
  unfolding op_row
  word_op_row k h = word_put_row ws to _ _ _ _ k h

  pub front_op_row : (n : ℕ) → n ≤ to → take n (op_row op ws to from) ≡ take n ws
  unfolding op_row
  front_op_row n h = front_put_row ws to _ _ _ _ n h

  pub behind_op_row : (n : ℕ) → to + 4 ≤ n → drop n (op_row op ws to from) ≡ drop n ws
  unfolding op_row
  behind_op_row n h = behind_put_row ws to _ _ _ _ n h

  pub has_op_row_elsewhere : (at i : ℕ) → (at + i / 64 < to) ⊎ (to + 4 ≤ at + i / 64) → has (op_row op ws to from) at i ≡ has ws at i
  unfolding op_row
  has_op_row_elsewhere at i h = has-put_row_elsewhere ws to _ _ _ _ at i h

  pub has_op_row_apart : (at i : ℕ) → Apart to at → i < 256 → has (op_row op ws to from) at i ≡ has ws at i
  unfolding op_row
  has_op_row_apart at i apart h = has-put_row_apart ws to _ _ _ _ at i apart h

pub joined_word : (op : ℕ → ℕ → ℕ) (ws : List ℕ) (to from k : ℕ) → to + 4 ≤ length ws → k < 4
    → get_or (op_row op ws to from) (to + k) 0 ≡ op (get_or ws (to + k) 0) (get_or ws (from + k) 0)
unfolding op_row
joined_word op ws to from zero fits h = simp add-zero (put_0 ws to _ _ _ _ fits)
joined_word op ws to from (suc zero) fits h = put_1 ws to _ _ _ _ fits
joined_word op ws to from (suc (suc zero)) fits h = put_2 ws to _ _ _ _ fits
joined_word op ws to from (suc (suc (suc zero))) fits h = put_3 ws to _ _ _ _ fits
joined_word op ws to from (suc (suc (suc (suc k)))) fits h = absurd (omega arith)

has_op_row : (op : ℕ → ℕ → ℕ) (F : Bool → Bool → Bool) → ((a b k : ℕ) → bit (op a b) k ≡ F (bit a k) (bit b k))
    → (ws : List ℕ) (to from i : ℕ) → to + 4 ≤ length ws → i < 256 → has (op_row op ws to from) to i ≡ F (has ws to i) (has ws from i)
unfolding has
has_op_row op F law ws to from i fits h =
    ap (λ (x : ℕ). bit x (i % 64)) (joined_word op ws to from (i / 64) fits (omega arith))
    ∙ law (get_or ws (to + i / 64) 0) (get_or ws (from + i / 64) 0) (i % 64)

-- `empty_row` has the op that answers 0
pub has-empty_row : (ws : List ℕ) (at i : ℕ) → at + 4 ≤ length ws → i < 256 → has (empty_row ws at) at i ≡ false
unfolding op_row
has-empty_row ws at = has_op_row (λ _ _. 0) (λ _ _. false) (λ _ _ k. zero_bit k) ws at at

pub has-union_row : (ws : List ℕ) (to from i : ℕ) → to + 4 ≤ length ws → i < 256 → has (union_row ws to from) to i ≡ (has ws to i || has ws from i)
has-union_row = has_op_row bit_or ◌||◌ bit-or

pub has-meet_row : (ws : List ℕ) (to from i : ℕ) → to + 4 ≤ length ws → i < 256 → has (meet_row ws to from) to i ≡ (has ws to i && has ws from i)
has-meet_row = has_op_row bit_and ◌&&◌ bit-and

pub has-minus_row : (ws : List ℕ) (to from i : ℕ) → to + 4 ≤ length ws → i < 256 → has (minus_row ws to from) to i ≡ (has ws to i && not (has ws from i))
has-minus_row = has_op_row less (λ a b. a && not b) bit_less

pub has-copied_row : (ws : List ℕ) (to from i : ℕ) → to + 4 ≤ length ws → i < 256 → has (copied_row ws to from) to i ≡ has ws from i
has-copied_row = has_op_row (λ a b. b) (λ a b. b) (λ a b k. refl)
