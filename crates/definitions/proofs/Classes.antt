-- Two rows are in one class exactly where their bits are equal and not empty.
use Rattle.std.proofs.Common.{◌≡◌, ℕ, zero, suc, ◌+◌, ◌<◌, ◌≤◌, Bool, true, false, cond, ◌&&◌, List, [], ◌∷◌, length, get_or, Some, None, Decides, Option, sym, refl, ap, ◌∙◌, subst, ap₂, ⊎_elim, arith}
use mathlib.Core.Path.{fun_ext}
use mathlib.Core.Bool.{beq}
use Rattle.std.specs.List.{ContainsAt as Has, AllByRecursion as All}
use Rattle.std.proofs.ByRecursion.{All-append, All-weaker, All-get_or, has_append_left, has_append_right}
use Rattle.std.proofs.lemmas.Bool.{cases_eq, and_parts, and_from, cases_Bool, both_ways, eqb-true, eq-eqb, not_from_false}
use Rattle.tables.specs.Below.{some_below, every_below, those_below, place, next, is}
use Rattle.definitions.specs.Classes.{Rows, same_row, least, leasts, classes, class}
use Rattle.definitions.proofs.Below.{some_below_decides, every_below_decides}

pub is_some : (o : Option ℕ) (x : ℕ) → is o x ≡ true → o ≡ Some x
is_some None x h = absurd (both_ways false refl h)
is_some (Some y) x h = ap (λ z. Some z) (eqb-true y x h)

pub is_of : (o : Option ℕ) (x : ℕ) → o ≡ Some x → is o x ≡ true
is_of o x e = ap (λ p. is p x) e ∙ eq-eqb x x refl

pub is_decides : (o : Option ℕ) (x : ℕ) → Decides (is o x) (o ≡ Some x)
is_decides o x = (is_some o x, is_of o x)

beq_true : (a b : Bool) → beq a b ≡ true → a ≡ b
beq_true true true h = refl
beq_true true false h = sym h
beq_true false true h = h
beq_true false false h = refl

beq_same : (a b : Bool) → a ≡ b → beq a b ≡ true
beq_same true true h = refl
beq_same true false h = sym h
beq_same false true h = h
beq_same false false h = refl

-- what `place` finds
abbrev Found : {A : Type 0} → (A → Bool) → List A → A → ℕ → Type 0
Found p xs d k = (k < length xs) × (p (get_or xs k d) ≡ true)

place_finds : {A : Type 0} (p : A → Bool) (xs : List A) (d : A) (k : ℕ) → place p xs ≡ Some k → Found p xs d k
place_finds p [] d k h = let z : ◌≡◌ {A = ℕ} 0 1 = cc in absurd (omega arith)
place_finds {A} p (x ∷ xs) d k h = go (p x) (place p xs) refl refl h (place_finds p xs d)
  where
    go : (b : Bool) (o : Option ℕ) → p x ≡ b → place p xs ≡ o → cond b (Some 0) (next o) ≡ Some k → ((j : ℕ) → place p xs ≡ Some j → Found p xs d j) → Found p (x ∷ xs) d k
    go true o e f g ih = let z : ◌≡◌ {A = ℕ} 0 k = cc in subst (λ (j : ℕ). (j < length (x ∷ xs)) × (p (get_or (x ∷ xs) j d) ≡ true)) z (omega arith, e)
    go false None e f g ih = let z : ◌≡◌ {A = ℕ} 0 1 = cc in absurd (omega arith)
    go false (Some j) e f g ih =
        let z : j + 1 ≡ k = cc in
        let z' : suc j ≡ k = omega arith in
        let q = ih j f in
        subst (λ (i : ℕ). (i < length (x ∷ xs)) × (p (get_or (x ∷ xs) i d) ≡ true)) z' (omega arith, q.1)

place_none : {A : Type 0} (p : A → Bool) (xs : List A) (d : A) (k : ℕ) → place p xs ≡ None → k < length xs → p (get_or xs k d) ≡ false
place_none p [] d k h l = absurd (omega arith)
place_none {A} p (x ∷ xs) d k h l = go (p x) (place p xs) refl refl h k l (place_none p xs d)
  where
    go : (b : Bool) (o : Option ℕ) → p x ≡ b → place p xs ≡ o → cond b (Some 0) (next o) ≡ None → (k : ℕ) → k < length (x ∷ xs) → ((j : ℕ) → place p xs ≡ None → j < length xs → p (get_or xs j d) ≡ false) → p (get_or (x ∷ xs) k d) ≡ false
    go true o e f g k l ih = let z : ◌≡◌ {A = ℕ} 0 1 = cc in absurd (omega arith)
    go false (Some j) e f g k l ih = let z : ◌≡◌ {A = ℕ} 0 1 = cc in absurd (omega arith)
    go false None e f g zero l ih = e
    go false None e f g (suc k) l ih = ih k f (omega arith)

-- those below n that pass
pub those_pass : (p : ℕ → Bool) (n : ℕ) → All (λ x. (x < n) × (p x ≡ true)) (those_below n p)
those_pass p zero = tt
those_pass p (suc n) =
    All-append (λ x. (x < suc n) × (p x ≡ true)) (those_below n p) (cond (p n) (n ∷ []) [])
    (All-weaker (λ x. (x < n) × (p x ≡ true)) (λ x. (x < suc n) × (p x ≡ true)) (λ x q. (omega arith, q.1)) (those_below n p) (those_pass p n)) (new (p n) refl)
  where
    new : (b : Bool) → p n ≡ b → All (λ x. (x < suc n) × (p x ≡ true)) (cond b (n ∷ []) [])
    new true e = ((omega arith, e), tt)
    new false e = tt

pub those_have : (p : ℕ → Bool) (n x : ℕ) → x < n → p x ≡ true → Has (those_below n p) x
those_have p zero x l h = absurd (omega arith)
those_have p (suc n) x l h = ⊎_elim last (λ apart. below (those_have p n x (omega arith) h)) (cases_eq x n)
  where
    last : x ≡ n → Has (those_below (suc n) p) x
    last e =
        has_append_right (those_below n p) (cond (p n) (n ∷ []) []) x
        (subst (λ (b : Bool). Has (cond b (n ∷ []) []) x) (sym (ap p (sym e) ∙ h)) (0, omega arith, λ d. sym e))

    below : Has (those_below n p) x → Has (those_below (suc n) p) x
    below q = has_append_left (those_below n p) (cond (p n) (n ∷ []) []) x q

module _ (n w : ℕ) (bits : Rows) where
  pub same_row_decides : (i j : ℕ) → Decides (same_row w bits i j) ((k : ℕ) → k < w → bits i k ≡ bits j k)
  unfolding same_row
  same_row_decides i j =
      every_below_decides (λ k. beq (bits i k) (bits j k)) (λ k. bits i k ≡ bits j k) (λ k. (beq_true _ _, beq_same _ _)) w

  -- the least row of class c
  pub leader : ℕ → ℕ
  leader c = get_or (leasts n w bits) c 0

  pub record InClass (i c : ℕ) : Type 0 where
    pub within : c < classes n w bits
    pub least_below : leader c < n
    pub bit : ℕ
    pub bit_below : bit < w
    pub has_bit : bits i bit ≡ true
    pub equal : (k : ℕ) → k < w → bits (leader c) k ≡ bits i k

  pub class_in : (i c : ℕ) → class n w bits i ≡ Some c → InClass i c
  unfolding class classes leader least leasts
  class_in i c h =
      let f = place_finds (λ j. same_row w bits j i) (leasts n w bits) 0 c h in
      found f.0 f.1
    where
      found : c < length (leasts n w bits) → same_row w bits (get_or (leasts n w bits) c 0) i ≡ true → InClass i c
      found l s =
          let q = All-get_or (λ x. (x < n) × (least w bits x ≡ true)) (leasts n w bits) c 0 l (those_pass (least w bits) n) in
          let eq = (same_row_decides (leader c) i).0 s in
          let b = (some_below_decides (bits (leader c)) (λ k. bits (leader c) k ≡ true) (λ k. (λ x. x, λ x. x)) w).0 (and_parts _ _ q.1).0 in
          record {
            within = l;
            least_below = q.0;
            bit = b.0;
            bit_below = b.1;
            has_bit = sym (eq b.0 b.1) ∙ b.2;
            equal = eq;
          }

  -- rows of one class have the same bits
  pub class_equal : (i j c : ℕ) → class n w bits i ≡ Some c → class n w bits j ≡ Some c → (k : ℕ) → k < w → bits i k ≡ bits j k
  class_equal i j c p q k l = sym ((class_in i c p).equal k l) ∙ (class_in j c q).equal k l

  same_row_like : (l i j : ℕ) → ((k : ℕ) → k < w → bits i k ≡ bits j k) → same_row w bits l i ≡ same_row w bits l j
  unfolding same_row
  same_row_like l i j h = go w (λ k b. h k b)
    where
      go : (v : ℕ) → ((k : ℕ) → k < v → bits i k ≡ bits j k) → every_below v (λ k. beq (bits l k) (bits i k)) ≡ every_below v (λ k. beq (bits l k) (bits j k))
      go zero h = refl
      go (suc v) h = ap₂ ◌&&◌ (ap (beq (bits l v)) (h v (omega arith))) (go v (λ k b. h k (omega arith)))

  -- rows with the same bits have one class
  pub class_like : (i j : ℕ) → ((k : ℕ) → k < w → bits i k ≡ bits j k) → class n w bits i ≡ class n w bits j
  unfolding class
  class_like i j h = ap (λ (p : ℕ → Bool). place p (leasts n w bits)) (fun_ext (λ l. same_row_like l i j h))

  Equal : ℕ → ℕ → Type 0
  Equal i j = (k : ℕ) → k < w → bits i k ≡ bits j k

  -- a row with a bit has the bits of some least row
  least_like : (v i k : ℕ) → i < v → k < w → bits i k ≡ true → (l : ℕ) × (l ≤ i) × (least w bits l ≡ true) × Equal l i
  unfolding Equal least
  least_like zero i k h b x = absurd (omega arith)
  least_like (suc v) i k h b x = ⊎_elim (λ s. earlier ((some_below_decides (λ j. same_row w bits j i) (λ j. Equal j i) (λ j. same_row_decides j i) i).0 s) (least_like v)) new (cases_Bool (some_below i (λ j. same_row w bits j i)))
    where
      earlier : ((j : ℕ) × (j < i) × Equal j i) → ((j k : ℕ) → j < v → k < w → bits j k ≡ true → (l : ℕ) × (l ≤ j) × (least w bits l ≡ true) × Equal l j) → (l : ℕ) × (l ≤ i) × (least w bits l ≡ true) × Equal l i
      earlier j ih = let r = ih j.0 k (omega arith) b (j.2 k b ∙ x) in (r.0, omega arith, r.2, λ k b. r.3 k b ∙ j.2 k b)

      new : some_below i (λ j. same_row w bits j i) ≡ false → (l : ℕ) × (l ≤ i) × (least w bits l ≡ true) × Equal l i
      new s = (i, omega arith, and_from _ _ ((some_below_decides (bits i) (λ k. bits i k ≡ true) (λ k. (λ y. y, λ y. y)) w).1 (k, b, x)) (not_from_false _ s), λ k b. refl)

  -- a row with a bit has a class
  pub class_some : (i k : ℕ) → i < n → k < w → bits i k ≡ true → (c : ℕ) × (class n w bits i ≡ Some c)
  unfolding class leasts Equal
  class_some i k l b x = go (class n w bits i) refl
    where
      go : (o : Option ℕ) → class n w bits i ≡ o → (c : ℕ) × (class n w bits i ≡ Some c)
      go (Some c) e = (c, e)
      go None e =
          let q = least_like (suc i) i k (omega arith) b x in
          let m = those_have (least w bits) n q.0 (omega arith) q.2 in
          let f = place_none (λ j. same_row w bits j i) (leasts n w bits) 0 m.0 e m.1 in
          absurd (both_ways _ f (ap (λ j. same_row w bits j i) (m.2 0) ∙ (same_row_decides q.0 i).1 q.3))
