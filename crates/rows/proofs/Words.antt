-- Rows by their words: what the functions that read a row find, and those that write one leave.
use Rattle.std.proofs.Common.{◌≡◌, ℕ, zero, suc, ◌+◌, ◌-◌, ◌*◌, ◌/◌, ◌%◌, ◌^◌, ◌<◌, ◌≤◌, Bool, true, false, eqb, ◌&&◌, ◌⊎◌, ◌↔◌, List, [], ◌∷◌, length, get_or, take, Some, sym, refl, ap, ◌∙◌, ap₂, inl, inr, ⊎_elim, add-one, arith, w64, Fits, IsTrue}
use lib.Count.{ones}
use Rattle.std.specs.List.{between, list_all, sum_by, fold, zip, All}
use Rattle.std.specs.Int.{trailing_zeros}
use Rattle.std.specs.Str.{bytes_eq}
use Rattle.std.proofs.Math.Bool.{and_assoc}
use Rattle.std.proofs.Math.Nat.{div-one}
use Rattle.std.proofs.lemmas.Bool.{cases_lt, both_ways}
use Rattle.std.proofs.lemmas.Bool.Decides.{Decides-by_and, Decides-eqb}
use Rattle.std.proofs.lemmas.Grind.{same_number_lists}
use Rattle.std.proofs.lemmas.List.{take_all}
use Rattle.std.proofs.lemmas.List.Edits.{length-between, get_or-between}
use Rattle.std.proofs.lemmas.List.Elements.{All-get_or, All-from_get_or}
use Rattle.std.proofs.lemmas.List.Sums.{sum_by_more}
use Rattle.std.proofs.lemmas.Nat.{shr_le}
use Rattle.std.proofs.lemmas.Slice.Eq.{bytes_eq-Decides}
use Rattle.rows.specs.Bits.{bit, has, op_row, Combined, count, Lowest, Next}
use Rattle.rows.proofs.Counts.{count_same, count_add, count_le}
use Rattle.rows.proofs.Digits.{zero_bit, bit_high, same_bits, bit_shr, lowest, ones_count}
use Rattle.rows.proofs.Laws.{length_op_row, word_op_row, joined_word}

pub has_at : (ws : List ℕ) (at q k : ℕ) → k < 64 → has ws at (64 * q + k) ≡ bit (get_or ws (at + q) 0) k
unfolding has
has_at ws at q k h =
    let high : (64 * q + k) / 64 ≡ q = omega arith in
    let low : (64 * q + k) % 64 ≡ k = omega arith in
    ap₂ (λ (x y : ℕ). bit (get_or ws (at + x) 0) y) high low

-- each word fits its type
abbrev pub Typed : List ℕ → Type 0
Typed ws = (i : ℕ) → Fits w64 (get_or ws i 0)

-- ---- a row that was written

-- the words are those that the combined row has
pub combined_is : {Of : ℕ → ℕ → ℕ → Type 0} {to from : ℕ} {ws vs : List ℕ} (op : ℕ → ℕ → ℕ) → to + 4 ≤ length ws → Combined Of to from ws vs
    → ((k r : ℕ) → Of (get_or ws (to + k) 0) (get_or ws (from + k) 0) r → r ≡ op (get_or ws (to + k) 0) (get_or ws (from + k) 0))
    → vs ≡ op_row op ws to from
combined_is {to = to} {from = from} {ws = ws} {vs = vs} op fits s says = same_number_lists vs (op_row op ws to from) (s.long ∙ sym (length_op_row op ws to from)) at
  where
    outside : (k : ℕ) → (k < to) ⊎ (to + 4 ≤ k) → get_or vs k 0 ≡ get_or (op_row op ws to from) k 0
    outside k o = s.others k o ∙ sym (word_op_row op ws to from k o)

    inside : (k : ℕ) → k < 4 → get_or vs (to + k) 0 ≡ get_or (op_row op ws to from) (to + k) 0
    inside k l = says k _ (s.made k l) ∙ sym (joined_word op ws to from k fits l)

    here : (k j : ℕ) → to + j ≡ k → j < 4 → get_or vs k 0 ≡ get_or (op_row op ws to from) k 0
    here k j e l = ap (λ (x : ℕ). get_or vs x 0) (sym e) ∙ inside j l ∙ ap (λ (x : ℕ). get_or (op_row op ws to from) x 0) e

    at : (k : ℕ) → k < length vs → get_or vs k 0 ≡ get_or (op_row op ws to from) k 0
    at k l =
        ⊎_elim (λ (x : k < to). outside k (inl x))
        (λ (x : to ≤ k). ⊎_elim (λ (y : k < to + 4). here k (k - to) (omega arith) (omega arith)) (λ (y : to + 4 ≤ k). outside k (inr y)) (cases_lt k (to + 4)))
        (cases_lt k to)

-- ---- a test of each item, by a `fold`

all_by_fold : {A : Type 0} (p : A → Bool) (b : Bool) (xs : List A) → fold (λ all x. all && p x) b xs ≡ (b && list_all p xs)
all_by_fold p b [] = grind arith
all_by_fold p b (x ∷ xs) = all_by_fold p (b && p x) xs ∙ and_assoc b (p x) (list_all p xs)

pairs_eq : (xs ys : List ℕ) → length xs ≡ length ys → list_all (λ p. eqb p.0 p.1) (zip xs ys) ≡ bytes_eq xs ys
pairs_eq [] [] h = refl
pairs_eq [] (y ∷ ys) h = absurd (omega arith)
pairs_eq (x ∷ xs) [] h = absurd (omega arith)
pairs_eq (x ∷ xs) (y ∷ ys) h = ap (λ b. eqb x y && b) (pairs_eq xs ys (omega arith))

-- ---- a row as the list of its words

abbrev zero_word : ℕ → Type 0
zero_word w = w ≡ 0

module _ (ws : List ℕ) (at : ℕ) (fits : at + 4 ≤ length ws) where
  abbrev row : List ℕ
  row = between at (at + 4) ws

  row_word : (k : ℕ) → k < 4 → get_or row k 0 ≡ get_or ws (at + k) 0
  row_word k l = get_or-between ws at (at + 4) k 0 (omega arith)

  row_length : length row ≡ 4
  row_length = let n = length-between ws at (at + 4) fits in omega arith

  pub row_has : (i : ℕ) → i < 256 → has ws at i ≡ bit (get_or row (i / 64) 0) (i % 64)
  unfolding has
  row_has i l = ap (λ (x : ℕ). bit x (i % 64)) (sym (row_word (i / 64) (omega arith)))

  module _ (typed : Typed ws) where
    word_small : (k : ℕ) → k < 4 → get_or row k 0 < 2 ^ 64
    word_small k l = let is = row_word k l in let small = (typed (at + k)).fits in omega arith

    -- ---- how many numbers it has

    count_word : (q : ℕ) → q < 4 → count (λ k. has ws at (64 * q + k)) 64 ≡ ones (get_or row q 0)
    count_word q l =
        count_same (λ k. has ws at (64 * q + k)) (bit (get_or row q 0)) 64 (λ k m. has_at ws at q k m ∙ ap (λ (x : ℕ). bit x k) (sym (row_word q l)))
        ∙ sym (ones_count 64 (get_or row q 0) (word_small q l))

    count_words : (q : ℕ) → q ≤ 4 → sum_by ones (take q row) ≡ count (has ws at) (64 * q)
    unfolding count
    count_words zero h = refl
    count_words (suc q) h =
        let long = row_length in
        let more = sum_by_more ones row q 0 (omega arith) in
        let before = count_words q (omega arith) in
        let word = count_word q (omega arith) in
        let add = count_add (has ws at) (64 * q) 64 in
        let next : 64 * q + 64 ≡ 64 * suc q = omega arith in
        ap (λ (k : ℕ). sum_by ones (take k row)) (sym (add-one q)) ∙ more ∙ ap₂ ◌+◌ before (sym word) ∙ sym add ∙ ap (count (has ws at)) next

    pub count_row : sum_by ones row ≡ count (has ws at) 256
    count_row = ap (sum_by ones) (sym (take_all 4 row (let long = row_length in omega arith))) ∙ count_words 4 (omega arith)

    pub few : sum_by ones row ≤ 256
    few = let is = count_row in omega (arith, count_le (has ws at) 256)

    -- ---- whether it has none

    pub empty_is : (r : Bool) → r ≡ list_all (λ w. eqb w 0) row → IsTrue r ↔ ((i : ℕ) → i < 256 → has ws at i ≡ false)
    empty_is r is = (
      λ t i l. let long = row_length in row_has i l ∙ ap (λ (x : ℕ). bit x (i % 64)) (All-get_or zero_word row (i / 64) 0 (omega arith) (decides.0 (sym is ∙ t))) ∙ zero_bit (i % 64),
      λ h. let long = row_length in is ∙ decides.1 (All-from_get_or zero_word row 0 (λ q l. same_bits (get_or row q 0) 0 (word_small q (omega arith)) (omega arith) (λ k m. none h q k (omega arith) m))),
    )
      where
        decides : (list_all (λ w. eqb w 0) row ≡ true → All zero_word row) × (All zero_word row → list_all (λ w. eqb w 0) row ≡ true)
        decides = Decides-by_and (λ w. eqb w 0) zero_word (list_all (λ w. eqb w 0)) (λ w. Decides-eqb w 0) refl (λ _ _. refl) row

        none : ((i : ℕ) → i < 256 → has ws at i ≡ false) → (q k : ℕ) → q < 4 → k < 64 → bit (get_or row q 0) k ≡ bit 0 k
        none h q k l m = ap (λ (x : ℕ). bit x k) (row_word q l) ∙ sym (has_at ws at q k m) ∙ h (64 * q + k) (omega arith) ∙ sym (zero_bit k)

    pub empty_by_fold : (r : Bool) → r ≡ fold (λ all w. all && eqb w 0) true row → IsTrue r ↔ ((i : ℕ) → i < 256 → has ws at i ≡ false)
    empty_by_fold r is = empty_is r (is ∙ all_by_fold (λ w. eqb w 0) true row)

-- ---- whether two rows are the same

pub same_is : (ws : List ℕ) (a b : ℕ) (fa : a + 4 ≤ length ws) (fb : b + 4 ≤ length ws) → Typed ws → (r : Bool)
    → r ≡ bytes_eq (between a (a + 4) ws) (between b (b + 4) ws) → IsTrue r ↔ ((i : ℕ) → i < 256 → has ws a i ≡ has ws b i)
same_is ws a b fa fb typed r is = (
  λ t i l. row_has ws a fa i l ∙ ap (λ (xs : List ℕ). bit (get_or xs (i / 64) 0) (i % 64)) (decides.0 (sym is ∙ t)) ∙ sym (row_has ws b fb i l),
  λ h. is ∙ decides.1 (same_number_lists _ _ (row_length ws a fa ∙ sym (row_length ws b fb)) (λ q l. let long = row_length ws a fa in word h q (omega arith))),
)
  where
    decides : (bytes_eq (row ws a fa) (row ws b fb) ≡ true → row ws a fa ≡ row ws b fb) × (row ws a fa ≡ row ws b fb → bytes_eq (row ws a fa) (row ws b fb) ≡ true)
    decides = bytes_eq-Decides (row ws a fa) (row ws b fb)

    word : ((i : ℕ) → i < 256 → has ws a i ≡ has ws b i) → (q : ℕ) → q < 4 → get_or (row ws a fa) q 0 ≡ get_or (row ws b fb) q 0
    word h q l = same_bits _ _ (word_small ws a fa typed q l) (word_small ws b fb typed q l) (λ k m.
        ap (λ (x : ℕ). bit x k) (row_word ws a fa q l) ∙ sym (has_at ws a q k m) ∙ h (64 * q + k) (omega arith) ∙ has_at ws b q k m ∙ ap (λ (x : ℕ). bit x k) (sym (row_word ws b fb q l)))

pub same_by_fold : (ws : List ℕ) (a b : ℕ) (fa : a + 4 ≤ length ws) (fb : b + 4 ≤ length ws) → Typed ws → (r : Bool)
    → r ≡ fold (λ all p. all && eqb p.0 p.1) true (zip (between a (a + 4) ws) (between b (b + 4) ws)) → IsTrue r ↔ ((i : ℕ) → i < 256 → has ws a i ≡ has ws b i)
same_by_fold ws a b fa fb typed r is =
    same_is ws a b fa fb typed r
    (is ∙ all_by_fold (λ p. eqb p.0 p.1) true (zip (row ws a fa) (row ws b fb))
    ∙ pairs_eq _ _ (row_length ws a fa ∙ sym (row_length ws b fb)))

-- ---- the next number of a row: `rest` is the row's word k from the bit of i on, where i is a number of that word

-- a word from its first bit on
pub whole : (w k : ℕ) → w ≡ w / 2 ^ (64 * k % 64)
whole w k = let first : 64 * k % 64 ≡ 0 = omega arith in sym (ap (λ (x : ℕ). w / 2 ^ x) first ∙ div-one w)

module _ (ws : List ℕ) (at k i rest : ℕ) (here : i / 64 ≡ k) (is : rest ≡ get_or ws (at + k) 0 / 2 ^ (i % 64)) where
  has_from : (j : ℕ) → i ≤ j → i % 64 + (j - i) < 64 → has ws at j ≡ bit rest (j - i)
  unfolding has
  has_from j l h =
      let high : j / 64 ≡ k = omega arith in
      let low : j % 64 ≡ i % 64 + (j - i) = omega arith in
      ap₂ (λ (x y : ℕ). bit (get_or ws (at + x) 0) y) high low ∙ sym (bit_shr (get_or ws (at + k) 0) (i % 64) (j - i)) ∙ ap (λ (x : ℕ). bit x (j - i)) (sym is)

  pub skips : (from : ℕ) → ((j : ℕ) → from ≤ j → j < i → has ws at j ≡ false) → rest ≡ 0
      → (j : ℕ) → from ≤ j → j < 64 * (k + 1) → has ws at j ≡ false
  skips from before zero_rest j l h =
      ⊎_elim (before j l)
      (λ (m : i ≤ j). has_from j m (omega arith) ∙ ap (λ (x : ℕ). bit x (j - i)) zero_rest ∙ zero_bit (j - i))
      (cases_lt j i)

  -- the lowest bit of the word lies in it
  within : (t : ℕ) → get_or ws (at + k) 0 < 2 ^ 64 → bit rest t ≡ true → i % 64 + t < 64
  within t fits b =
      ⊎_elim (λ (l : i % 64 + t < 64). l)
      (λ (l : 64 ≤ i % 64 + t). absurd (both_ways (bit rest t) (ap (λ (x : ℕ). bit x t) is ∙ bit_shr (get_or ws (at + k) 0) (i % 64) t ∙ bit_high _ _ fits l) b))
      (cases_lt (i % 64 + t) 64)

  pub finds : (from : ℕ) → k < 4 → get_or ws (at + k) 0 < 2 ^ 64 → from ≤ i → ((j : ℕ) → from ≤ j → j < i → has ws at j ≡ false) → 0 < rest
      → (r : ℕ) → r ≡ i + trailing_zeros w64 rest → Next (has ws at) from 256 (Some r)
  finds from small fits le before some r told =
      let t = trailing_zeros w64 rest in
      let low : Lowest rest t = lowest rest some (omega (arith, shr_le (get_or ws (at + k) 0) (i % 64))) in
      let inside : i % 64 + t < 64 = within t fits low.0 in
      let same : (i + t) - i ≡ t = omega arith in
      rw told (
        omega arith,
        omega arith,
        has_from (i + t) (omega arith) (omega arith) ∙ ap (bit rest) same ∙ low.0,
        λ j l h. ⊎_elim (before j l) (λ (m : i ≤ j). has_from j m (omega arith) ∙ low.1 (j - i) (omega arith)) (cases_lt j i),
      )
