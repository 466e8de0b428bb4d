-- One row more: what becomes of the least rows, and of each row's class.
use Rattle.std.proofs.Common.{◌≡◌, ℕ, zero, suc, ◌+◌, ◌<◌, ◌≤◌, Bool, true, false, cond, not, ◌&&◌, ◌⊎◌, List, [], ◌∷◌, ◌++◌, length, get_or, Some, None, Option, sym, refl, ap, ◌∙◌, inl, inr, ⊎_elim, append_assoc, add-one, arith, length-append}
use Rattle.std.proofs.lemmas.List.{append-nil, get_or_append_left}
use Rattle.std.proofs.lemmas.Bool.{cases_eq, and_parts, and_from, cases_Bool, both_ways, not_from_false, cond-true, cond-false}
use Rattle.rows.specs.Bits.{Next}
use Rattle.tables.specs.Below.{some_below, place, next}
use Rattle.definitions.specs.Classes.{Rows, same_row, least, leasts, classes, class}
use Rattle.definitions.proofs.Below.{some_below_decides}
use Rattle.definitions.proofs.Classes.{same_row_decides, class_in, class_like, class_some}

-- ---- the first place that passes

pub place_at : {A : Type 0} (p : A → Bool) (xs : List A) (d : A) (k : ℕ) → k < length xs → p (get_or xs k d) ≡ true → ((j : ℕ) → j < k → p (get_or xs j d) ≡ false) → place p xs ≡ Some k
place_at p [] d k l t f = absurd (omega arith)
place_at p (x ∷ xs) d zero l t f = cond-true (p x) (Some 0) (next (place p xs)) t
place_at p (x ∷ xs) d (suc k) l t f =
    cond-false (p x) (Some 0) (next (place p xs)) (f 0 (omega arith))
    ∙ ap next (place_at p xs d k (omega arith) t (λ j h. f (suc j) (omega arith))) ∙ ap (λ i. Some i) (let e : k + 1 ≡ suc k = omega arith in e)

pub place_past : {A : Type 0} (p : A → Bool) (xs : List A) (d : A) → ((j : ℕ) → j < length xs → p (get_or xs j d) ≡ false) → place p xs ≡ None
place_past p [] d f = refl
place_past p (x ∷ xs) d f =
    cond-false (p x) (Some 0) (next (place p xs)) (f 0 (omega arith)) ∙ ap next (place_past p xs d (λ j h. f (suc j) (omega arith)))

-- by a search for the least number that passes
pub place_next : {A : Type 0} (p : A → Bool) (xs : List A) (d : A) (f : ℕ → Bool) (n : ℕ) → n ≡ length xs → ((j : ℕ) → j < n → f j ≡ p (get_or xs j d)) → (r : Option ℕ) → Next f 0 n r → place p xs ≡ r
place_next p xs d f n is same None h = place_past p xs d (λ j l. sym (same j (omega arith)) ∙ h j (omega arith) (omega arith))
place_next p xs d f n is same (Some k) h =
    let small = h.1 in
    place_at p xs d k (omega arith) (sym (same k small) ∙ h.2) (λ j l. sym (same j (omega arith)) ∙ h.3 j (omega arith) l)

pub place_more : {A : Type 0} (p : A → Bool) (xs ys : List A) (k : ℕ) → place p xs ≡ Some k → place p (xs ++ ys) ≡ Some k
place_more p [] ys k e = cc
place_more p (x ∷ xs) ys k e = go (p x) (place p xs) e (place_more p xs ys)
  where
    go : (b : Bool) (o : Option ℕ) → cond b (Some 0) (next o) ≡ Some k → ((j : ℕ) → o ≡ Some j → place p (xs ++ ys) ≡ Some j) → cond b (Some 0) (next (place p (xs ++ ys))) ≡ Some k
    go true o e ih = e
    go false None e ih = cc
    go false (Some j) e ih = ap next (ih j refl) ∙ e

pub place_last : {A : Type 0} (p : A → Bool) (xs : List A) (x : A) → place p xs ≡ None → place p (xs ++ (x ∷ [])) ≡ cond (p x) (Some (length xs)) None
place_last p [] x e = refl
place_last p (y ∷ ys) x e = go (p y) (place p ys) e (place_last p ys x)
  where
    after : (b : Bool) → next (cond b (Some (length ys)) None) ≡ cond b (Some (length (y ∷ ys))) None
    after true = ap (λ i. Some i) (let e : length ys + 1 ≡ suc (length ys) = omega arith in e)
    after false = refl

    go : (b : Bool) (o : Option ℕ) → cond b (Some 0) (next o) ≡ None → (o ≡ None → place p (ys ++ (x ∷ [])) ≡ cond (p x) (Some (length ys)) None)
        → cond b (Some 0) (next (place p (ys ++ (x ∷ [])))) ≡ cond (p x) (Some (length (y ∷ ys))) None
    go true o e ih = cc
    go false None e ih = ap next (ih refl) ∙ after (p x)
    go false (Some j) e ih = cc

-- ---- one row more

module _ (w : ℕ) (bits : Rows) (m : ℕ) where
  leasts_more : leasts (m + 1) w bits ≡ leasts m w bits ++ cond (least w bits m) (m ∷ []) []
  unfolding leasts
  leasts_more = rw add-one

  pub leasts_same : least w bits m ≡ false → leasts (m + 1) w bits ≡ leasts m w bits
  leasts_same h = leasts_more ∙ ap (λ b. leasts m w bits ++ cond b (m ∷ []) []) h ∙ append-nil (leasts m w bits)

  pub leasts_new : least w bits m ≡ true → leasts (m + 1) w bits ≡ leasts m w bits ++ (m ∷ [])
  leasts_new h = leasts_more ∙ ap (λ b. leasts m w bits ++ cond b (m ∷ []) []) h

  -- the row is empty
  pub empty_not_least : ((k : ℕ) → k < w → bits m k ≡ false) → least w bits m ≡ false
  unfolding least
  empty_not_least none =
      ⊎_elim
      (λ (h : some_below w (bits m) ≡ true). let b = (some_below_decides (bits m) (λ k. bits m k ≡ true) (λ k. (λ x. x, λ x. x)) w).0 h in absurd (both_ways _ (none b.0 b.1) b.2))
      (λ (h : some_below w (bits m) ≡ false). ap (λ b. b && not (some_below m (λ j. same_row w bits j m))) h)
      (cases_Bool (some_below w (bits m)))

  pub empty_none : ((k : ℕ) → k < w → bits m k ≡ false) → class m w bits m ≡ None
  empty_none none = go (class m w bits m) refl
    where
      go : (o : Option ℕ) → class m w bits m ≡ o → class m w bits m ≡ None
      go None e = e
      go (Some c) e = let q = class_in m w bits m c e in absurd (both_ways _ (none q.bit q.bit_below) q.has_bit)

  -- the row is as an earlier one
  and_false : (a b : Bool) → b ≡ true → (a && not b) ≡ false
  and_false true b h = ap not h
  and_false false b h = refl

  pub found_not_least : (c : ℕ) → class m w bits m ≡ Some c → least w bits m ≡ false
  unfolding least
  found_not_least c h =
      let q = class_in m w bits m c h in
      and_false (some_below w (bits m)) (some_below m (λ j. same_row w bits j m))
      ((some_below_decides (λ j. same_row w bits j m) (λ j. (k : ℕ) → k < w → bits j k ≡ bits m k) (λ j. same_row_decides m w bits j m) m).1 (_, q.least_below, q.equal))

  -- the row is new
  pub new_least : (((k : ℕ) → k < w → bits m k ≡ false) → ⊥) → class m w bits m ≡ None → least w bits m ≡ true
  unfolding least
  new_least some none = and_from _ _ (nonempty (cases_Bool (some_below w (bits m)))) (not_from_false _ (fresh (cases_Bool (some_below m (λ j. same_row w bits j m)))))
    where
      nonempty : ((some_below w (bits m) ≡ true) ⊎ (some_below w (bits m) ≡ false)) → some_below w (bits m) ≡ true
      nonempty (inl h) = h
      nonempty (inr h) =
          absurd (some (λ k l. ⊎_elim (λ (t : bits m k ≡ true). absurd (both_ways _ h ((some_below_decides (bits m) (λ k. bits m k ≡ true) (λ k. (λ x. x, λ x. x)) w).1 (k, l, t)))) (λ f. f) (cases_Bool (bits m k))))

      fresh : ((some_below m (λ j. same_row w bits j m) ≡ true) ⊎ (some_below m (λ j. same_row w bits j m) ≡ false)) → some_below m (λ j. same_row w bits j m) ≡ false
      fresh (inr h) = h
      fresh (inl h) =
          let q = (some_below_decides (λ j. same_row w bits j m) (λ j. (k : ℕ) → k < w → bits j k ≡ bits m k) (λ j. same_row_decides m w bits j m) m).0 h in
          let b = (some_below_decides (bits m) (λ k. bits m k ≡ true) (λ k. (λ x. x, λ x. x)) w).0 (nonempty (cases_Bool (some_below w (bits m)))) in
          let c = class_some m w bits q.0 b.0 q.1 b.1 (q.2 b.0 b.1 ∙ b.2) in
          let is = sym none ∙ sym (class_like m w bits q.0 m q.2) ∙ c.1 in
          cc

  -- ---- the classes then

  pub class_same : least w bits m ≡ false → (i : ℕ) → class (m + 1) w bits i ≡ class m w bits i
  unfolding class
  class_same h i = ap (place (λ j. same_row w bits j i)) (leasts_same h)

  pub class_new : least w bits m ≡ true → class m w bits m ≡ None → class (m + 1) w bits m ≡ Some (classes m w bits)
  unfolding class classes
  class_new h none =
      ap (place (λ j. same_row w bits j m)) (leasts_new h) ∙ place_last (λ j. same_row w bits j m) (leasts m w bits) m none
      ∙ cond-true (same_row w bits m m) (Some (length (leasts m w bits))) None ((same_row_decides m w bits m m).1 (λ k l. refl))

  pub class_old : least w bits m ≡ true → (i : ℕ) → i < m → class (m + 1) w bits i ≡ class m w bits i
  unfolding class least
  class_old h i l = ap (place (λ j. same_row w bits j i)) (leasts_new h) ∙ go (class m w bits i) refl
    where
      go : (o : Option ℕ) → class m w bits i ≡ o → place (λ j. same_row w bits j i) (leasts m w bits ++ (m ∷ [])) ≡ class m w bits i
      go (Some c) e = place_more (λ j. same_row w bits j i) (leasts m w bits) (m ∷ []) c e ∙ sym e
      go None e =
          place_last (λ j. same_row w bits j i) (leasts m w bits) m e
          ∙ cond-false (same_row w bits m i) (Some (length (leasts m w bits))) None (⊎_elim (λ t. absurd (other t)) (λ f. f) (cases_Bool (same_row w bits m i))) ∙ sym e
        where
          other : same_row w bits m i ≡ true → ⊥
          other t =
              let b = (some_below_decides (bits m) (λ k. bits m k ≡ true) (λ k. (λ x. x, λ x. x)) w).0 (and_parts _ _ h).0 in
              let c = class_some m w bits i b.0 l b.1 (sym ((same_row_decides m w bits m i).0 t b.0 b.1) ∙ b.2) in
              let is = sym e ∙ c.1 in
              cc

-- what is a least row of the first rows is one of all
module _ (w : ℕ) (bits : Rows) (m : ℕ) where
  grown : (n : ℕ) → m ≤ n → (zs : List ℕ) × (leasts n w bits ≡ leasts m w bits ++ zs)
  unfolding leasts
  grown zero l = let z : zero ≡ m = omega arith in ([], ap (λ k. leasts k w bits) z ∙ sym (append-nil (leasts m w bits)))
  grown (suc n) l =
      ⊎_elim
      (λ (z : m ≡ suc n). same (sym z))
      (λ (ne : m ≡ suc n → ⊥). more (grown n (omega arith)))
      (cases_eq m (suc n))
    where
      same : suc n ≡ m → (zs : List ℕ) × (leasts (suc n) w bits ≡ leasts m w bits ++ zs)
      same z = ([], ap (λ k. leasts k w bits) z ∙ sym (append-nil (leasts m w bits)))

      more : ((zs : List ℕ) × (leasts n w bits ≡ leasts m w bits ++ zs)) → (zs : List ℕ) × (leasts (suc n) w bits ≡ leasts m w bits ++ zs)
      more q =
          let new = cond (least w bits n) (n ∷ []) [] in
          (q.0 ++ new, ap (λ xs. xs ++ new) q.1 ∙ append_assoc (leasts m w bits) q.0 new)

  pub leasts_on : (n a d : ℕ) → m ≤ n → a < classes m w bits → (a < classes n w bits) × (get_or (leasts n w bits) a d ≡ get_or (leasts m w bits) a d)
  unfolding classes
  leasts_on n a d l h =
      let q = grown n l in
      let long = ap length q.1 ∙ length-append (leasts m w bits) q.0 in
      (omega arith, ap (λ xs. get_or xs a d) q.1 ∙ get_or_append_left (leasts m w bits) q.0 d a h)
