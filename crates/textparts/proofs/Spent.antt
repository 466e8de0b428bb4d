-- The lines that a reading takes are the lines as they are written.
use Rattle.std.proofs.Common.{◌≡◌, ℕ, zero, suc, ◌+◌, Bool, true, false, cond, List, [], ◌∷◌, ◌++◌, map, length, Ok, Err, Result, sym, refl, ap, ◌∙◌, arith}
use Rattle.std.proofs.lemmas.List.{append_assoc}
use Rattle.std.proofs.lemmas.Bool.{eqb-true}
use Rattle.std.specs.List.{flat_map}
use Rattle.lines.specs.Field.{bind}
use Rattle.lines.specs.Lines.{LineValue, line_of}
use Rattle.texts.specs.Form.{LineAt, line_at, At, at, Step, place, placed, starts, one_line, one, before, many_lines, many, times}
use Rattle.textparts.proofs.Digits.{held, inverted}
use Rattle.textparts.proofs.Bodies.{Reads}

-- from p to q the lines ts are read
pub record Spent (p q : At) (ts : List (List ℕ)) : Type 0 where
  pub lines : p.left ≡ ts ++ q.left
  pub whole : q.whole ≡ p.whole

pub spent_none : (p : At) → Spent p p []
spent_none p = record { lines = refl; whole = refl }

pub spent_both : (p q r : At) (xs ys : List (List ℕ)) → Spent p q xs → Spent q r ys → Spent p r (xs ++ ys)
spent_both p q r xs ys a b = record {
  lines = a.lines ∙ ap (λ l. xs ++ l) b.lines ∙ sym (append_assoc xs ys r.left);
  whole = b.whole ∙ a.whole;
}

-- the pair that a step gave
pub spent_as : {A : Type 0} (p q : At) (ts : A → List (List ℕ)) (a : A) (s : A × At) → Spent p s.1 (ts s.0) → s ≡ (a, q) → Spent p q (ts a)
spent_as p q ts a s h e = record {
  lines = h.lines ∙ ap (λ (x : _ × At). ts x.0 ++ x.1.left) e;
  whole = ap (λ (x : _ × At). x.1.whole) (sym e) ∙ h.whole;
}

module _ (k : ℕ) (body : LineValue → List ℕ) (reads : Reads k body) where
  abbrev written_line : LineAt → List ℕ
  written_line v = k ∷ body v.value

  -- a line that has the letter k
  line_back : (l : List ℕ) (v : LineValue) → starts k l ≡ true → line_of l ≡ Ok v → l ≡ k ∷ body v
  line_back [] v s h = absurd (let z : ◌≡◌ {A = ℕ} 0 1 = cc in omega arith)
  line_back (b ∷ bs) v s h =
      let same = eqb-true b k s in
      ap (λ x. x ∷ bs) same ∙ ap (λ x. k ∷ x) (reads bs v (ap (λ x. line_of (x ∷ bs)) (sym same) ∙ h))

  module _ (w : Bool) where
    one_way : (n : ℕ) (l : List ℕ) (ls : List (List ℕ)) (b : Bool) (x : Result LineValue ℕ) → starts k l ≡ b → line_of l ≡ x → (v : LineAt) (q : At) →
        ◌≡◌ {A = Step LineAt} (cond b (bind (placed n x) (λ v. Ok (line_at n v, at (n + 1) ls w))) (Err (place n 1))) (Ok (v, q)) →
        Spent (at n (l ∷ ls) w) q (written_line v ∷ [])
    one_way n l ls true (Ok u) s h v q e =
        spent_as (at n (l ∷ ls) w) q (λ v. written_line v ∷ []) v (line_at n u, at (n + 1) ls w)
        (record { lines = ap (λ x. x ∷ ls) (line_back l u s h); whole = refl }) (held (line_at n u, at (n + 1) ls w) (v, q) e)
    one_way n l ls true (Err c) s h v q e = absurd (let z : ◌≡◌ {A = ℕ} 0 1 = cc in omega arith)
    one_way n l ls false x s h v q e = absurd (let z : ◌≡◌ {A = ℕ} 0 1 = cc in omega arith)

    one_spent : (n : ℕ) (ls : List (List ℕ)) (v : LineAt) (q : At) → one_line k w n ls ≡ Ok (v, q) → Spent (at n ls w) q (written_line v ∷ [])
    one_spent n [] v q e = absurd (let z : ◌≡◌ {A = ℕ} 0 1 = cc in omega arith)
    one_spent n (l ∷ ls) v q e = one_way n l ls (starts k l) (line_of l) refl refl v q e

    many_way : (n : ℕ) (l : List ℕ) (ls : List (List ℕ)) (b : Bool) (x : Result LineValue ℕ) (r : Step (List LineAt)) → starts k l ≡ b → line_of l ≡ x →
        ((vs : List LineAt) (q : At) → r ≡ Ok (vs, q) → Spent (at (n + 1) ls w) q (map written_line vs)) → (vs : List LineAt) (q : At) →
        ◌≡◌ {A = Step (List LineAt)} (cond b (bind (placed n x) (λ v. before (line_at n v) r)) (Ok ([], at n (l ∷ ls) w))) (Ok (vs, q)) →
        Spent (at n (l ∷ ls) w) q (map written_line vs)
    many_way n l ls true (Ok u) (Ok s) b h rest vs q e =
        spent_as (at n (l ∷ ls) w) q (map written_line) vs (line_at n u ∷ s.0, s.1)
        (spent_both (at n (l ∷ ls) w) (at (n + 1) ls w) s.1 (written_line (line_at n u) ∷ []) (map written_line s.0)
        (record { lines = ap (λ x. x ∷ ls) (line_back l u b h); whole = refl }) (rest s.0 s.1 refl)) (held (line_at n u ∷ s.0, s.1) (vs, q) e)
    many_way n l ls true (Ok u) (Err p) b h rest vs q e = absurd (let z : ◌≡◌ {A = ℕ} 0 1 = cc in omega arith)
    many_way n l ls true (Err c) r b h rest vs q e = absurd (let z : ◌≡◌ {A = ℕ} 0 1 = cc in omega arith)
    many_way n l ls false x r b h rest vs q e =
        spent_as (at n (l ∷ ls) w) q (map written_line) vs ([], at n (l ∷ ls) w) (spent_none (at n (l ∷ ls) w)) (held ([], at n (l ∷ ls) w) (vs, q) e)

    many_spent : (n : ℕ) (ls : List (List ℕ)) (vs : List LineAt) (q : At) → many_lines k w n ls ≡ Ok (vs, q) → Spent (at n ls w) q (map written_line vs)
    many_spent n [] vs q e = spent_as (at n [] w) q (map written_line) vs ([], at n [] w) (spent_none (at n [] w)) (held ([], at n [] w) (vs, q) e)
    many_spent n (l ∷ ls) vs q e = many_way n l ls (starts k l) (line_of l) (many_lines k w (n + 1) ls) refl refl (many_spent (n + 1) ls) vs q e

  pub one_back : (p q : At) (v : LineAt) → one k p ≡ Ok (v, q) → Spent p q (written_line v ∷ [])
  one_back p q v e = one_spent p.whole p.line p.left v q e

  pub many_back : (p q : At) (vs : List LineAt) → many k p ≡ Ok (vs, q) → Spent p q (map written_line vs)
  many_back p q vs e = many_spent p.whole p.line p.left vs q e

module _ {A : Type 0} (f : At → Step A) (texts : A → List (List ℕ)) (back : (p q : At) (a : A) → f p ≡ Ok (a, q) → Spent p q (texts a)) where
  pub times_back : (n : ℕ) (p q : At) (xs : List A) → times f n p ≡ Ok (xs, q) → Spent p q (flat_map texts xs) × (length xs ≡ n)
  times_back zero p q xs e =
      let same = held ([], p) (xs, q) e in
      (spent_as p q (flat_map texts) xs ([], p) (spent_none p) same, ap (λ (x : List A × At). length x.0) (sym same))
  times_back (suc n) p q xs e =
      let i = inverted (f p) (λ a. before a.0 (times f n a.1)) (xs, q) e in
      let j = inverted (times f n i.0.1) (λ s. Ok (i.0.0 ∷ s.0, s.1)) (xs, q) i.2 in
      let r = times_back n i.0.1 j.0.1 j.0.0 j.1 in
      let same = held (i.0.0 ∷ j.0.0, j.0.1) (xs, q) j.2 in (
        spent_as p q (flat_map texts) xs (i.0.0 ∷ j.0.0, j.0.1)
            (spent_both p i.0.1 j.0.1 (texts i.0.0) (flat_map texts j.0.0) (back p i.0.1 i.0.0 i.1) r.0) same,
        ap (λ (x : List A × At). length x.0) (sym same) ∙ ap suc r.1,
      )
