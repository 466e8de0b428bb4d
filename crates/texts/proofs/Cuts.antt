-- A text by its first line.
use Rattle.std.proofs.Common.{◌≡◌, ℕ, zero, suc, ◌+◌, ◌-◌, ◌<◌, ◌≤◌, Bool, true, false, cond, eqb, List, [], ◌∷◌, length, get_or, take, drop, Some, None, sym, refl, ap, ◌∙◌, add-one, arith, length-drop}
use Rattle.std.proofs.lemmas.Bool.{eq-eqb, ne_eqb, eqb-true, ltb-false}
use Rattle.std.proofs.lemmas.List.{take_rest}
use Rattle.std.proofs.lemmas.List.Quantifiers.{position-Some}
use Rattle.std.proofs.lemmas.List.Sums.{fails_before_first}
use Rattle.std.specs.List.{position, position_or_len}
use Rattle.texts.specs.Form.{grow, lines_of, finished}
use Rattle.texts.specs.Cut.{is_empty, Cut}

-- no byte 10 stands below n
abbrev Clear : List ℕ → ℕ → Type 0
Clear t n = (k : ℕ) → k < n → get_or t k 0 ≡ 10 → ⊥

later : (b : ℕ) (bs : List ℕ) (n : ℕ) → Clear (b ∷ bs) (suc n) → Clear bs n
later b bs n clear k lt e = clear (suc k) (omega arith) e

lines_none : (t : List ℕ) → Clear t (length t) → lines_of t ≡ []
lines_none [] clear = refl
lines_none (b ∷ bs) clear =
    ap (λ v. cond v ([] ∷ lines_of bs) (grow b (lines_of bs))) (ne_eqb b 10 (clear 0 (omega arith)))
    ∙ ap (grow b) (lines_none bs (later b bs (length bs) clear))

lines_at : (t : List ℕ) (n : ℕ) → n < length t → Clear t n → get_or t n 0 ≡ 10 → lines_of t ≡ take n t ∷ lines_of (drop (suc n) t)
lines_at [] n lt clear e = absurd (omega arith)
lines_at (b ∷ bs) zero lt clear e = ap (λ v. cond v ([] ∷ lines_of bs) (grow b (lines_of bs))) (eq-eqb b 10 e)
lines_at (b ∷ bs) (suc n) lt clear e =
    ap (λ v. cond v ([] ∷ lines_of bs) (grow b (lines_of bs))) (ne_eqb b 10 (clear 0 (omega arith)))
    ∙ ap (grow b) (lines_at bs n (omega arith) (later b bs n clear) e)

whole_at : (t : List ℕ) (n : ℕ) → n < length t → get_or t n 0 ≡ 10 → finished t ≡ finished (drop (suc n) t)
whole_at [] n lt e = absurd (omega arith)
whole_at (b ∷ []) zero lt e = eq-eqb b 10 e
whole_at (b ∷ c ∷ bs) zero lt e = refl
whole_at (b ∷ []) (suc n) lt e = absurd (omega arith)
whole_at (b ∷ c ∷ bs) (suc n) lt e = whole_at (c ∷ bs) n (omega arith) e

-- bytes that make no line are not finished
unfinished : (t : List ℕ) → lines_of t ≡ [] → is_empty t ≡ finished t
unfinished [] e = refl
unfinished (b ∷ []) e = way (eqb b 10) e
  where
    way : (v : Bool) → ◌≡◌ {A = List (List ℕ)} (cond v ([] ∷ []) []) [] → false ≡ v
    way true e = absurd (let z : ◌≡◌ {A = ℕ} 0 1 = cc in omega arith)
    way false e = refl
unfinished (b ∷ c ∷ bs) e = unfinished (c ∷ bs) (way (eqb b 10) (lines_of (c ∷ bs)) e)
  where
    way : (v : Bool) (ls : List (List ℕ)) → cond v ([] ∷ ls) (grow b ls) ≡ [] → ls ≡ []
    way true ls e = absurd (let z : ◌≡◌ {A = ℕ} 0 1 = cc in omega arith)
    way false [] e = refl
    way false (l ∷ ls) e = absurd (let z : ◌≡◌ {A = ℕ} 0 1 = cc in omega arith)

-- the places below the first byte 10
clear_below : (t : List ℕ) (n : ℕ) → ((k : ℕ) → k < n → eqb (get_or t k 0) 10 ≡ false) → Clear t n
clear_below t n h k lt e = absurd (let z = sym (h k lt) ∙ eq-eqb (get_or t k 0) 10 e in let y : ◌≡◌ {A = ℕ} 0 1 = cc in omega arith)

-- there is none
late : (b : Bool) (n : ℕ) → cond b (Some n) None ≡ None → b ≡ false
late true n e = cc
late false n e = refl

pub cut_none : (t : List ℕ) → position (λ b. eqb b 10) t ≡ None → Cut t None t
cut_none t e =
    let first = position_or_len (λ b. eqb b 10) t in
    let past : length t ≤ first = ltb-false first (length t) (late _ first e) in
    let clear = clear_below t (length t) (λ k lt. fails_before_first (λ b. eqb b 10) t k 0 (omega arith)) in
    record { lines = sym (lines_none t clear); whole = unfinished t (lines_none t clear); shorter = omega arith }

pub cut_at : (t : List ℕ) (n : ℕ) → position (λ b. eqb b 10) t ≡ Some n → Cut t (Some (take n t)) (take (length t - (n + 1)) (drop (n + 1) t))
cut_at t n e =
    let at = position-Some (λ b. eqb b 10) t n 0 e in
    let lt : n < length t = at.0 in
    let here = eqb-true (get_or t n 0) 10 at.1 in
    let clear = clear_below t n at.2 in
    let rest_is = take_rest t (n + 1) ∙ ap (λ k. drop k t) (add-one n) in
    record {
      lines = sym (lines_at t n lt clear here ∙ ap (λ x. take n t ∷ lines_of x) (sym rest_is));
      whole = sym (whole_at t n lt here ∙ ap finished (sym rest_is));
      shorter = omega (arith, ap length rest_is, length-drop (suc n) t);
    }
