-- Lines of one letter, one at a time.
use Rattle.std.proofs.Common.{◌≡◌, ℕ, suc, ◌+◌, ◌<◌, Bool, true, false, cond, List, [], ◌∷◌, ◌++◌, map, length, Ok, Err, Result, sym, refl, ap, ◌∙◌, arith}
use Rattle.std.proofs.lemmas.List.{append_assoc, append-nil, map_push}
use Rattle.lines.specs.Field.{bind}
use Rattle.lines.specs.Lines.{LineValue, line_of}
use Rattle.texts.specs.Form.{LineAt, line_at, At, at, Step, place, placed, starts, one_line, one, before, many_lines, many}
use Rattle.texts.specs.declared.unreadable.Unreadable.{Unreadable}
use Rattle.texts.specs.declared.unreadable.Unreadable.TheVariants.{Memory, Form}
use Rattle.texts.specs.Exact.{next_starts, Exactly}

-- what was read before, in front of what is read
abbrev pub pushed : {A : Type 0} → List A → Step (List A) → Step (List A)
pushed olds s = bind s (λ x. Ok (olds ++ x.0, x.1))

pushed_before : {A : Type 0} (olds : List A) (v : A) (s : Step (List A)) → pushed olds (before v s) ≡ pushed (olds ++ v ∷ []) s
pushed_before olds v (Ok x) = ap (λ l. Ok (l, x.1)) (sym (append_assoc olds (v ∷ []) x.0))
pushed_before olds v (Err p) = refl

-- one thing more, and then the rest
pub pushed_step : {A : Type 0} (olds : List A) (s : Step A) (rest : At → Step (List A)) →
    pushed olds (bind s (λ a. before a.0 (rest a.1))) ≡ bind s (λ a. pushed (olds ++ a.0 ∷ []) (rest a.1))
pushed_step olds (Ok a) rest = pushed_before olds a.0 (rest a.1)
pushed_step olds (Err p) rest = refl

-- what is read and pushed, by its value
pub pushed_row : {A B : Type 0} (f : A → B) (olds news : List A) (x : A) (s : Step (List B)) → news ≡ olds ++ x ∷ [] →
    pushed (map f olds ++ f x ∷ []) s ≡ pushed (map f news) s
pushed_row f olds news x s e = ap (λ l. pushed l s) (sym (ap (map f) e ∙ map_push f olds x))

-- how many lines are left
abbrev left_by : {A : Type 0} → Step A → ℕ
left_by (Ok s) = length s.1.left
left_by (Err p) = 0

-- a line that is read, and the next
abbrev taken : Bool → ℕ → List (List ℕ) → Result LineValue ℕ → Step LineAt
taken w n ls x = bind (placed n x) (λ v. Ok (line_at n v, at (n + 1) ls w))

abbrev going : ℕ → LineAt × At → Step (List LineAt)
going k s = before s.0 (many k s.1)

module _ (k : ℕ) (w : Bool) (n : ℕ) where
  stop : (ls : List (List ℕ)) → next_starts k ls ≡ false → many_lines k w n ls ≡ Ok ([], at n ls w)
  stop [] e = refl
  stop (l ∷ ls) e = ap (λ b. cond b (bind (placed n (line_of l)) (λ v. before (line_at n v) (many_lines k w (n + 1) ls))) (Ok ([], at n (l ∷ ls) w))) e

  step : (ls : List (List ℕ)) → next_starts k ls ≡ true → many_lines k w n ls ≡ bind (one_line k w n ls) (going k)
  step [] e = absurd (let z : ◌≡◌ {A = ℕ} 0 1 = cc in omega arith)
  step (l ∷ ls) e =
      ap (λ b. cond b (bind (placed n (line_of l)) (λ v. before (line_at n v) (many_lines k w (n + 1) ls))) (Ok ([], at n (l ∷ ls) w))) e
      ∙ through (line_of l)
      ∙ ap (λ b. bind (cond b (taken w n ls (line_of l)) (Err (place n 1))) (going k)) (sym e)
    where
      through : (x : Result LineValue ℕ) → bind (placed n x) (λ v. before (line_at n v) (many_lines k w (n + 1) ls))
          ≡ bind (taken w n ls x) (going k)
      through (Ok v) = refl
      through (Err c) = refl

  less : (ls : List (List ℕ)) → next_starts k ls ≡ true → left_by (one_line k w n ls) < length ls
  less [] e = absurd (let z : ◌≡◌ {A = ℕ} 0 1 = cc in omega arith)
  less (l ∷ ls) e = way (starts k l) (line_of l)
    where
      way : (b : Bool) (x : Result LineValue ℕ) → left_by (cond b (taken w n ls x) (Err (place n 1))) < suc (length ls)
      way true (Ok u) = omega arith
      way true (Err c) = omega arith
      way false x = omega arith

-- as many lines as have the letter k, where the lines `olds` are read and the reading is at p
module _ (k : ℕ) (p : At) (olds : List LineAt) where
  pub many_stop : (all : Step (List LineAt)) → next_starts k p.left ≡ false → pushed olds (many k p) ≡ all → all ≡ Ok (olds, p)
  many_stop all e inv = sym inv ∙ ap (pushed olds) (stop k p.whole p.line p.left e) ∙ ap (λ l. Ok (l, p)) (append-nil olds)

  one_more : (r : Step LineAt) → next_starts k p.left ≡ true → one k p ≡ r → pushed olds (many k p) ≡ bind r (λ a. pushed (olds ++ a.0 ∷ []) (many k a.1))
  one_more r e h =
      ap (pushed olds) (step k p.whole p.line p.left e) ∙ pushed_step olds (one k p) (many k)
      ∙ ap (λ s. bind s (λ a. pushed (olds ++ a.0 ∷ []) (many k a.1))) h

  -- a fault of one line is the fault of all
  pub many_exit : {U V : Type 0} (f : U → LineAt) (g : V → List LineAt) (q t : At) (all : Step (List LineAt)) (e : Unreadable) → next_starts k p.left ≡ true →
      pushed olds (many k p) ≡ all → Exactly f (Err e) q (one k p) → Exactly g (Err e) t all
  many_exit f g q t all Memory e inv h = tt
  many_exit f g q t all (Form x) e inv h = sym inv ∙ one_more (Err x) e h

  pub one_less : (q : At) (v : LineAt) → next_starts k p.left ≡ true → one k p ≡ Ok (v, q) → length q.left < length p.left
  one_less q v e h = omega (arith, less k p.whole p.line p.left e, ap left_by h)

-- one line more, by its value
pub many_more : {A : Type 0} (f : A → LineAt) (k : ℕ) (p q : At) (olds news : List A) (x : A) (all : Step (List LineAt)) → next_starts k p.left ≡ true →
    pushed (map f olds) (many k p) ≡ all → one k p ≡ Ok (f x, q) → news ≡ olds ++ x ∷ [] → pushed (map f news) (many k q) ≡ all
many_more f k p q olds news x all e inv h grown = sym (pushed_row f olds news x (many k q) grown) ∙ sym (one_more k p (map f olds) (Ok (f x, q)) e h) ∙ inv

-- the end of a loop that reads as many lines as have a letter, and its measure
pub ruleset reading_many = (many_stop, many_exit, one_less)
