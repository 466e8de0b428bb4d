-- Rows that agree below a width, and are empty from there on, have the same classes.
use Rattle.std.proofs.Common.{◌≡◌, ℕ, zero, suc, ◌<◌, ◌≤◌, Bool, true, false, cond, not, ◌&&◌, ◌||◌, List, [], ◌∷◌, ◌++◌, length, Some, sym, refl, ap, ◌∙◌, ap₂, ⊎_elim, arith}
use Rattle.std.specs.List.{AllByRecursion as All}
use Rattle.std.proofs.ByRecursion.{All-weaker}
use Rattle.std.proofs.lemmas.Bool.{cases_lt, both_ways}
use Rattle.std.proofs.lemmas.Bool.Decides.{same_from_decides}
use Rattle.tables.specs.Below.{some_below, those_below, place, next}
use Rattle.definitions.specs.Classes.{Rows, same_row, least, leasts, classes, class}
use Rattle.definitions.proofs.Below.{some_below_decides}
use Rattle.definitions.proofs.Classes.{same_row_decides, those_pass}
use Rattle.classes.specs.Numbering.{row_has, SaysRows}

some_same : (p q : ℕ → Bool) (n : ℕ) → ((k : ℕ) → k < n → p k ≡ q k) → some_below n p ≡ some_below n q
some_same p q zero h = refl
some_same p q (suc n) h = ap₂ ◌||◌ (h n (omega arith)) (some_same p q n (λ k l. h k (omega arith)))

those_same : (p q : ℕ → Bool) (n : ℕ) → ((k : ℕ) → k < n → p k ≡ q k) → those_below n p ≡ those_below n q
those_same p q zero h = refl
those_same p q (suc n) h = ap₂ (λ xs b. xs ++ cond b (n ∷ []) []) (those_same p q n (λ k l. h k (omega arith))) (h n (omega arith))

place_same : (p q : ℕ → Bool) (xs : List ℕ) → All (λ x. p x ≡ q x) xs → place p xs ≡ place q xs
place_same p q [] h = refl
place_same p q (x ∷ xs) h = ap₂ (λ b o. cond b (Some 0) (next o)) h.0 (place_same p q xs h.1)

module _ (n v w : ℕ) (narrow : v ≤ w) (b c : Rows) (same : (i k : ℕ) → i < n → k < v → c i k ≡ b i k) (rest : (i k : ℕ) → i < n → v ≤ k → k < w → c i k ≡ false) where
  same_rows : (i j : ℕ) → i < n → j < n → same_row v b i j ≡ same_row w c i j
  same_rows i j l m =
      same_from_decides _ _ (same_row_decides n v b i j) (
        λ h k a. sym (same i k l a) ∙ (same_row_decides n w c i j).0 h k (omega arith) ∙ same j k m a,
        λ h. (same_row_decides n w c i j).1 (λ k a.
            ⊎_elim (λ (x : k < v). same i k l x ∙ h k x ∙ sym (same j k m x)) (λ (x : v ≤ k). rest i k l x a ∙ sym (rest j k m x a)) (cases_lt k v)),
      )

  some_bits : (i : ℕ) → i < n → some_below v (b i) ≡ some_below w (c i)
  some_bits i l =
      same_from_decides _ _ (some_below_decides (b i) (λ k. b i k ≡ true) (λ k. (λ x. x, λ x. x)) v) (
        λ h. there ((some_below_decides (c i) (λ k. c i k ≡ true) (λ k. (λ x. x, λ x. x)) w).0 h),
        λ q. (some_below_decides (c i) (λ k. c i k ≡ true) (λ k. (λ x. x, λ x. x)) w).1 (let small = q.1 in (q.0, omega arith, same i q.0 l q.1 ∙ q.2)),
      )
    where
      there : ((k : ℕ) × (k < w) × (c i k ≡ true)) → (k : ℕ) × (k < v) × (b i k ≡ true)
      there q =
          ⊎_elim (λ (x : q.0 < v). (q.0, x, sym (same i q.0 l x) ∙ q.2)) (λ (x : v ≤ q.0). absurd (both_ways _ (rest i q.0 l x q.1) q.2)) (cases_lt q.0 v)

  least_same : (i : ℕ) → i < n → least v b i ≡ least w c i
  unfolding least
  least_same i l = ap₂ (λ x y. x && not y) (some_bits i l) (some_same (λ j. same_row v b j i) (λ j. same_row w c j i) i (λ j a. same_rows j i (omega arith) l))

  leasts_same : leasts n v b ≡ leasts n w c
  unfolding leasts
  leasts_same = those_same (least v b) (least w c) n least_same

  class_same : (i : ℕ) → i < n → class n v b i ≡ class n w c i
  unfolding class leasts
  class_same i l =
      place_same (λ j. same_row v b j i) (λ j. same_row w c j i) (leasts n v b)
      (All-weaker (λ x. (x < n) × (least v b x ≡ true)) (λ x. same_row v b x i ≡ same_row w c x i) (λ x q. same_rows x i q.0 l) (leasts n v b) (those_pass (least v b) n))
      ∙ ap (place (λ j. same_row w c j i)) leasts_same

-- rows in the words have the classes of the bits that they say
module _ {bits : Rows} {n w rows : ℕ} {ws : List ℕ} (says : SaysRows bits n w rows ws) where
  agree : (i k : ℕ) → i < n → k < w → row_has rows ws i k ≡ bits i k
  unfolding row_has
  agree i k l b = says.bits_are i k l (omega arith)

  empty : (i k : ℕ) → i < n → w ≤ k → k < 256 → row_has rows ws i k ≡ false
  unfolding row_has
  empty i k l b h = says.bits_are i k l h ∙ says.none i k l b h

  pub leasts_are : leasts n w bits ≡ leasts n 256 (row_has rows ws)
  leasts_are = leasts_same n w 256 says.narrow bits (row_has rows ws) agree empty

  pub classes_are : classes n w bits ≡ classes n 256 (row_has rows ws)
  unfolding classes
  classes_are = ap length leasts_are

  pub class_is : (i : ℕ) → i < n → class n w bits i ≡ class n 256 (row_has rows ws) i
  class_is = class_same n w 256 says.narrow bits (row_has rows ws) agree empty
