-- Checks one after another by number: one more that passes, one that does not, and what they say of a list.
use Rattle.std.proofs.Common.{◌≡◌, ℕ, zero, suc, ◌+◌, ◌-◌, ◌<◌, List, [], ◌∷◌, length, Some, Ok, Err, sym, refl, ap, ◌∙◌, subst, add-one, arith}
use Rattle.std.specs.List.{slice_get}
use Rattle.std.specs.Option.{option_map_or}
use Rattle.tables.specs.declared.fault.Fault.{Fault}
use Rattle.definitions.specs.Checks.{Checked, then, each}
use Rattle.checkparts.specs.Each.{each_below}

-- at what a table means, which is as it was at each question
module _ {M P : Type 0} (one : M → ℕ → Checked P) (i n : ℕ) (v₀ v₁ : M) (lt : i < n) (same : v₁ ≡ v₀)
    (left : each_below (one v₀) i (n - i) ≡ each_below (one v₀) 0 n) where
  rest : Checked P → Checked P
  rest r = then r (each_below (one v₀) (suc i) (n - suc i))

  whole : rest (one v₁ i) ≡ each_below (one v₀) 0 n
  unfolding rest
  whole = let k : n - i ≡ suc (n - suc i) = omega arith in ap (λ v. rest (one v i)) same ∙ (rw k at left)

  pub again : Ok tt ≡ one v₁ i → each_below (one v₀) (i + 1) (n - (i + 1)) ≡ each_below (one v₀) 0 n
  unfolding rest
  again e = rw add-one (ap rest e ∙ whole)

  pub stop : (y : Fault P) → Err y ≡ one v₁ i → Err y ≡ each_below (one v₀) 0 n
  unfolding rest
  stop y e = ap rest e ∙ whole

-- the checks of as many numbers as a list has elements are those of its elements
told_from : {P X : Type 0} (one : ℕ → Checked P) (f : ℕ → X → Checked P) (i : ℕ) (xs : List X) →
    ((j k : ℕ) (x : X) → j ≡ i + k → Some x ≡ slice_get xs k → one j ≡ f j x) → each_below one i (length xs) ≡ each f i xs
told_from one f i [] h = refl
told_from one f i (x ∷ xs) h =
    ap (λ r. then r (each_below one (suc i) (length xs))) (h i 0 x (omega arith) refl)
    ∙ ap (then (f i x)) (told_from one f (suc i) xs (λ j k y e at. h j (suc k) y (omega arith) at))

pub each_told : {P X : Type 0} (one : ℕ → Checked P) (f : ℕ → X → Checked P) (n : ℕ) (xs : List X) (r : Checked P) → n ≡ length xs →
    ((k : ℕ) (x : X) → Some x ≡ slice_get xs k → one k ≡ f k x) → r ≡ each_below one 0 n → r ≡ each f 0 xs
each_told one f n xs r e h told =
    told ∙ ap (each_below one 0) e
    ∙ told_from one f 0 xs (λ j k x is at. let z : k ≡ j = omega arith in subst (λ (q : ℕ). one q ≡ f q x) z (h k x at))

-- where nothing is amiss past the end of the list
pub each_there : {P X : Type 0} (f : ℕ → X → Checked P) (n : ℕ) (xs : List X) (r : Checked P) → n ≡ length xs →
    r ≡ each_below (λ i. option_map_or (f i) (slice_get xs i) (Ok tt)) 0 n → r ≡ each f 0 xs
each_there f n xs r e told = each_told _ f n xs r e (λ k x at. ap (λ o. option_map_or (f k) o (Ok tt)) (sym at)) told

-- where two checks pass, each does
then_parts : {P : Type 0} (a b : Checked P) → Ok tt ≡ then a b → (Ok tt ≡ a) × (Ok tt ≡ b)
then_parts (Ok x) b e = (refl, e)
then_parts (Err y) b e = let z : ◌≡◌ {A = ℕ} 0 1 = cc in absurd (omega arith)

-- where every element passes, the one at k does
pub each_passes : {P X : Type 0} (f : ℕ → X → Checked P) (i : ℕ) (xs : List X) → Ok tt ≡ each f i xs →
    (j k : ℕ) (x : X) → j ≡ i + k → Some x ≡ slice_get xs k → Ok tt ≡ f j x
each_passes f i [] e j k x is at = let z : ◌≡◌ {A = ℕ} 0 1 = cc in absurd (omega arith)
each_passes f i (y ∷ ys) e j zero x is at =
    let here : y ≡ x = cc in
    let n : i ≡ j = omega arith in
    (then_parts (f i y) (each f (suc i) ys) e).0 ∙ ap (f i) here ∙ ap (λ q. f q x) n
each_passes f i (y ∷ ys) e j (suc k) x is at = each_passes f (suc i) ys (then_parts (f i y) (each f (suc i) ys) e).1 j k x (omega arith) at
