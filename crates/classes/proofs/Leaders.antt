-- The least row of class a is of class a.
use Rattle.std.proofs.Common.{◌≡◌, ℕ, zero, suc, ◌<◌, ◌≤◌, Bool, true, false, cond, List, [], ◌∷◌, ◌++◌, length, get_or, Some, sym, refl, subst, ⊎_elim, arith, length-append}
use Rattle.std.proofs.lemmas.List.{append-nil, get_or_at, get_or_append_left}
use Rattle.std.proofs.ByRecursion.{All-get_or}
use Rattle.std.proofs.lemmas.Bool.{cases_lt, and_parts, cases_Bool, both_ways, not-true}
use Rattle.tables.specs.Below.{some_below, those_below}
use Rattle.definitions.specs.Classes.{Rows, same_row, least, leasts, classes, class}
use Rattle.definitions.proofs.Below.{some_below_decides}
use Rattle.definitions.proofs.Classes.{same_row_decides, those_pass}
use Rattle.classes.proofs.Placing.{place_at}

-- the numbers below n that pass rise
pub those_rise : (p : ℕ → Bool) (n i j : ℕ) → i < j → j < length (those_below n p) → get_or (those_below n p) i 0 < get_or (those_below n p) j 0
those_rise p zero i j l h = absurd (omega arith)
those_rise p (suc n) i j l h = go (p n) h (those_rise p n i j l)
  where
    go : (b : Bool) → j < length (those_below n p ++ cond b (n ∷ []) []) → (j < length (those_below n p) → get_or (those_below n p) i 0 < get_or (those_below n p) j 0)
        → get_or (those_below n p ++ cond b (n ∷ []) []) i 0 < get_or (those_below n p ++ cond b (n ∷ []) []) j 0
    go false h ih =
        subst (λ xs. get_or xs i 0 < get_or xs j 0) (sym (append-nil (those_below n p))) (ih (subst (λ (xs : List ℕ). j < length xs) (append-nil (those_below n p)) h))
    go true h ih =
        let long = length-append (those_below n p) (n ∷ []) in
        ⊎_elim
        (λ (x : j < length (those_below n p)).
        let at_j = get_or_append_left (those_below n p) (n ∷ []) 0 j x in
        let at_i = get_or_append_left (those_below n p) (n ∷ []) 0 i (omega arith) in
        let less = ih x in omega arith)
        (λ (x : length (those_below n p) ≤ j).
        let at_j = get_or_at (those_below n p) n [] 0 j (omega arith) in
        let at_i = get_or_append_left (those_below n p) (n ∷ []) 0 i (omega arith) in
        let less = (All-get_or (λ x. (x < n) × (p x ≡ true)) (those_below n p) i 0 (omega arith) (those_pass p n)).0 in omega arith)
        (cases_lt j (length (those_below n p)))

module _ (n w : ℕ) (bits : Rows) (a : ℕ) where
  pub leader_below : a < classes n w bits → get_or (leasts n w bits) a 0 < n
  unfolding classes leasts
  leader_below l = (All-get_or (λ x. (x < n) × (least w bits x ≡ true)) (leasts n w bits) a 0 l (those_pass (least w bits) n)).0

  leader_least : a < classes n w bits → some_below (get_or (leasts n w bits) a 0) (λ j. same_row w bits j (get_or (leasts n w bits) a 0)) ≡ false
  unfolding classes leasts least
  leader_least l = not-true _ (and_parts _ _ (All-get_or (λ x. (x < n) × (least w bits x ≡ true)) (leasts n w bits) a 0 l (those_pass (least w bits) n)).1).1

  leader_rises : (j : ℕ) → j < a → a < classes n w bits → get_or (leasts n w bits) j 0 < get_or (leasts n w bits) a 0
  unfolding classes leasts
  leader_rises j h l = those_rise (least w bits) n j a h l

  other : (m i : ℕ) → i < m → some_below m (λ j. same_row w bits j m) ≡ false → same_row w bits i m ≡ false
  other m i h none =
      ⊎_elim
      (λ (t : same_row w bits i m ≡ true). absurd (both_ways _ none ((some_below_decides (λ j. same_row w bits j m) (λ j. same_row w bits j m ≡ true) (λ j. (λ x. x, λ x. x)) m).1 (i, h, t))))
      (λ f. f) (cases_Bool (same_row w bits i m))

  pub leader_class : a < classes n w bits → class n w bits (get_or (leasts n w bits) a 0) ≡ Some a
  unfolding class classes
  leader_class l =
      place_at (λ j. same_row w bits j (get_or (leasts n w bits) a 0)) (leasts n w bits) 0 a l
      ((same_row_decides n w bits (get_or (leasts n w bits) a 0) (get_or (leasts n w bits) a 0)).1 (λ k b. refl))
      (λ j h. other (get_or (leasts n w bits) a 0) (get_or (leasts n w bits) j 0) (leader_rises j h l) (leader_least l))
