-- How many numbers below n pass a test.
use Rattle.std.proofs.Common.{◌≡◌, ℕ, zero, suc, ◌+◌, ◌<◌, ◌≤◌, Bool, true, false, cond, ◌≢◌, sym, refl, ap, ◌∙◌, ap₂, ⊎_elim, not-suc-le-zero, add-zero, add-suc, arith}
use Rattle.std.proofs.lemmas.Bool.{cases_eq, cond-true, cond-false}
use Rattle.rows.specs.Bits.{count}

pub count_none : (f : ℕ → Bool) → count f 0 ≡ 0
unfolding count
count_none f = refl

pub count_same : (f g : ℕ → Bool) (n : ℕ) → ((k : ℕ) → k < n → f k ≡ g k) → count f n ≡ count g n
unfolding count
count_same f g zero h = refl
count_same f g (suc n) h = ap₂ ◌+◌ (count_same f g n (λ k l. h k (omega arith))) (ap (λ b. cond b 1 0) (h n (omega arith)))

pub count_first : (f : ℕ → Bool) (n : ℕ) → count f (suc n) ≡ cond (f 0) 1 0 + count (λ k. f (suc k)) n
unfolding count
count_first f zero = omega arith
count_first f (suc n) = omega (arith, count_first f n)

pub count_add : (f : ℕ → Bool) (m n : ℕ) → count f (m + n) ≡ count f m + count (λ k. f (m + k)) n
unfolding count
count_add f m zero = ap (count f) (add-zero m) ∙ sym (add-zero (count f m))
count_add f m (suc n) = ap (count f) (add-suc m n) ∙ ap (λ (x : ℕ). x + cond (f (m + n)) 1 0) (count_add f m n) ∙ omega arith

cond_le : (b : Bool) → cond b 1 0 ≤ 1
cond_le b = grind arith

pub count_le : (f : ℕ → Bool) (n : ℕ) → count f n ≤ n
unfolding count
count_le f zero = omega arith
count_le f (suc n) = omega (arith, count_le f n, cond_le (f n))

counts_none : (f : ℕ → Bool) {w n : ℕ} → w ≡ n → f w ≡ false → ◌≡◌ {A = ℕ} (cond (f n) 1 0) 0
counts_none f {w} {n} same e = cond-false (f n) 1 0 (ap f (sym same) ∙ e)

counts_one : (f : ℕ → Bool) {w n : ℕ} → w ≡ n → f w ≡ true → ◌≡◌ {A = ℕ} (cond (f n) 1 0) 1
counts_one f {w} {n} same e = cond-true (f n) 1 0 (ap f (sym same) ∙ e)

-- one number fails the test
pub count_room : (f : ℕ → Bool) (n w : ℕ) → w < n → f w ≡ false → count f n < n
unfolding count
count_room f zero w h e = absurd (not-suc-le-zero h)
count_room f (suc n) w h e =
    ⊎_elim
    (λ (same : w ≡ n). omega (arith, count_le f n, counts_none f same e))
    (λ (other : w ≡ n → ⊥). omega (arith, count_room f n w (omega arith) e, cond_le (f n)))
    (cases_eq w n)

-- one number more passes it
pub count_one_more : (f g : ℕ → Bool) (n w : ℕ) → w < n → f w ≡ false → g w ≡ true → ((k : ℕ) → k ≢ w → g k ≡ f k) → count g n ≡ count f n + 1
unfolding count
count_one_more f g zero w h e e' s = absurd (not-suc-le-zero h)
count_one_more f g (suc n) w h e e' s =
    ⊎_elim
    (λ (same : w ≡ n). omega (
      arith,
      count_same g f n (λ k l. s k (omega arith)),
      counts_none f same e,
      counts_one g same e',
    ))
    (λ (other : w ≡ n → ⊥). omega (
      arith,
      count_one_more f g n w (omega arith) e e' s,
      ap (λ b. cond {A = ℕ} b 1 0) (s n (λ r. other (sym r))),
    ))
    (cases_eq w n)
