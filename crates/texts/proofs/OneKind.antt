-- A line as one of a kind.
use Rattle.std.proofs.Common.{◌≡◌, ℕ, ◌+◌, Bool, true, false, cond, List, [], ◌∷◌, Some, None, Ok, Err, Option, Result, sym, ap, ◌∙◌}
use Rattle.std.proofs.lemmas.Bool.{eq-eqb, eqb-true}
use Rattle.std.specs.Option.{option_map, ok_or}
use Rattle.std.specs.Prelude.{MatchResult}
use Rattle.lines.specs.declared.wrong.WrongColumn.{WrongColumn}
use Rattle.lines.specs.Field.{bind, read_by}
use Rattle.lines.specs.Lines.{LineValue, line_of}
use Rattle.lines.specs.Values.{of_letter}
use Rattle.lines.proofs.Letters.{kind_read}
use Rattle.texts.specs.declared.unreadable.Unreadable.{Unreadable}
use Rattle.texts.specs.declared.unreadable.Unreadable.TheVariants.{Form}
use Rattle.texts.specs.Exact.{Exactly}
use Rattle.texts.specs.Form.{LineAt, line_at, At, at, place, placed, starts, one_line}

-- a line of the letter k that is read is of the kind k
of_own : (k : ℕ) (l : List ℕ) (v : LineValue) → starts k l ≡ true → line_of l ≡ Ok v → of_letter k v ≡ Some v
of_own k [] v s h = cc
of_own k (b ∷ bs) v s h = ap (λ t. cond t (Some v) None) (eq-eqb v.kind k (kind_read b bs v h ∙ eqb-true b k s))

module _ {X : Type 0} (value : X → LineValue) (k : ℕ) (l : List ℕ) (v : LineValue) (e : WrongColumn) (s : starts k l ≡ true) (h : line_of l ≡ Ok v) where
  pub as_kind : (o : Option X) → option_map value o ≡ of_letter k v → read_by value (ok_or o e) ≡ cond (starts k l) (line_of l) (Err 1)
  as_kind None m = let z = m ∙ of_own k l v s h in cc
  as_kind (Some x) m =
      let z = m ∙ of_own k l v s h in
      let same : value x ≡ v = cc in
      ap Ok same ∙ sym h ∙ sym (ap (λ t. cond t (line_of l) (Err 1)) s)

-- a wrong line is wrong where the form says
pub wrong_kind : {X C : Type 0} (value : X → LineValue) (f : C → LineAt) (k n : ℕ) (w : Bool) (l : List ℕ) (ls : List (List ℕ)) (r : Result X WrongColumn) (u : Unreadable) (q : At) →
    read_by value r ≡ cond (starts k l) (line_of l) (Err 1) → MatchResult r (λ x. Err u ≡ Ok x) (λ e. u ≡ Form (place n e.column)) →
    Exactly f (Err u) q (one_line k w n (l ∷ ls))
wrong_kind value f k n w l ls (Ok x) u q h m = cc
wrong_kind value f k n w l ls (Err e) u q h m =
    rw m (way (starts k l) (line_of l) h)
  where
    way : (b : Bool) (x : Result LineValue ℕ) → Err e.column ≡ cond b x (Err 1) →
        cond b (bind {B = LineAt × At} (placed n x) (λ v. Ok (line_at n v, at (n + 1) ls w))) (Err (place n 1)) ≡ Err (place n e.column)
    way true (Ok v) g = cc
    way true (Err c) g = let same : e.column ≡ c = cc in ap (λ d. Err (place n d)) (sym same)
    way false x g = let same : e.column ≡ 1 = cc in ap (λ d. Err (place n d)) (sym same)
