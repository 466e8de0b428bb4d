-- The columns of a field, one at a time.
use Rattle.std.proofs.Common.{◌≡◌, ℕ, ◌+◌, ◌-◌, ◌*◌, ◌^◌, ◌<◌, ◌≤◌, false, cond, eqb, leb, List, length, get_or, take, drop, Some, None, Ok, Err, Option, sym, ap, ◌∙◌, arith, lit<, pow-add}
use native.Mathlib.Nat.{pow-le-pow_right}
use Rattle.std.proofs.lemmas.Bool.{and_parts, leb-true, le-leb, cond_both}
use Rattle.std.proofs.lemmas.Bool.Decides.{leb_tells}
use Rattle.std.proofs.lemmas.List.{at_drop_more, at_drop_all}
use Rattle.std.specs.List.{PartBy}
use Rattle.std.specs.Option.{ok_or, MatchOption}
use Rattle.lines.specs.declared.field.Field.{Field}
use Rattle.lines.specs.declared.field.Field.TheVariants.{Blank, Zero, Number, Wrong}
use Rattle.lines.specs.declared.wrong.WrongColumn.{WrongColumn}
use Rattle.lines.specs.Field.{column, columns, field, number_in, optional_in, as_read, is_digit, Small}

digit_small : (b n v : ℕ) → v < n → (f : Field) → Small (cond (is_digit b) (Number (v * 10 + (b - 48))) Wrong) (n * 10)
digit_small b n v lt f =
    cond_both (is_digit b) (Number (v * 10 + (b - 48))) Wrong (λ g. Small g (n * 10))
    (λ e. omega (arith, leb-true b 57 (and_parts (leb 48 b) (leb b 57) e).1)) (λ _. tt)

first_small : (b n : ℕ) → 0 < n → Small (cond (is_digit b) (Number (b - 48)) Wrong) (n * 10)
first_small b n lt =
    cond_both (is_digit b) (Number (b - 48)) Wrong (λ g. Small g (n * 10))
    (λ e. omega (arith, leb-true b 57 (and_parts (leb 48 b) (leb b 57) e).1)) (λ _. tt)

small_by : (f : Field) (b n : ℕ) → 0 < n → Small f n → Small (column f b) (n * 10)
small_by Blank b n lt s =
    cond_both (eqb b 32) Blank _ (λ g. Small g (n * 10)) (λ _. tt)
    (λ _. cond_both (eqb b 48) Zero _ (λ g. Small g (n * 10)) (λ _. tt) (λ _. first_small b n lt))
small_by Zero b n lt s = tt
small_by (Number v) b n lt s = digit_small b n v s Blank
small_by Wrong b n lt s = tt

power_pos : (i : ℕ) → 0 < 10 ^ i
power_pos i = omega (arith, pow-le-pow_right {n = 10} (lit< tt) {i = 0} {j = i} (omega arith))

pub small_more : (f r : Field) (b i : ℕ) → r ≡ column f b → Small f (10 ^ i) → Small r (10 ^ (i + 1))
small_more f r b i e s = rw (e, pow-add 10 i 1) (small_by f b (10 ^ i) (power_pos i) s)

widen : (f : Field) (m n : ℕ) → m ≤ n → Small f m → Small f n
widen Blank m n le s = tt
widen Zero m n le s = tt
widen (Number v) m n le s = omega arith
widen Wrong m n le s = tt

pub small_here : (f : Field) (i : ℕ) → i ≤ 5 → Small f (10 ^ i) → Small f 100000
small_here f i le s = widen f (10 ^ i) 100000 (pow-le-pow_right {n = 10} (lit< tt) {i = i} {j = 5} le) s

module _ (xs : List ℕ) (i : ℕ) (f whole : Field) (inv : columns f (drop i xs) ≡ whole) where
  pub columns_more : (r : Field) → r ≡ column f (get_or xs i 0) → i < length xs → columns r (drop (i + 1) xs) ≡ whole
  columns_more r e lt = ap (λ g. columns g (drop (i + 1) xs)) e ∙ sym (at_drop_more (columns f) xs i 0 lt) ∙ inv

  pub columns_end : length xs ≤ i → f ≡ whole
  columns_end le = sym (at_drop_all (columns f) xs i le) ∙ inv

-- the field at an offset, by the part of the line that stands there
module _ {A : Type 0} (now : A → List ℕ) (l : List ℕ) (i : ℕ) (r : Field) where
  pub field_by : (o : Option A) → PartBy now l i (i + 6) o → MatchOption o (r ≡ Wrong) (λ x. r ≡ columns Blank (now x)) → r ≡ field l i
  field_by None p m =
      let cut : length l < i + 6 = omega arith in
      let no : leb (i + 6) (length l) ≡ false = grind (arith, leb_tells (i + 6) (length l)) in
      m ∙ ap (λ b. cond b (columns Blank (take 6 (drop i l))) Wrong) (sym no)
  field_by (Some x) p m =
      let six : i + 6 - i ≡ 6 = omega arith in
      m ∙ ap (columns Blank) p.0.2 ∙ ap (λ n. columns Blank (take n (drop i l))) six
      ∙ ap (λ b. cond b (columns Blank (take 6 (drop i l))) Wrong) (sym (le-leb (i + 6) (length l) p.0.1))

-- a number is an optional number that is there; a blank field is wrong
pub number_from_optional : (f : Field) (c : ℕ) (o : Option ℕ) (e : WrongColumn) → e.column ≡ c → Ok o ≡ optional_in f c → as_read (ok_or o e) ≡ number_in f c
number_from_optional Blank c None e k h = ap Err k
number_from_optional Blank c (Some v) e k h = cc
number_from_optional Zero c o e k h = let is : o ≡ Some 0 = cc in rw is
number_from_optional (Number v) c o e k h = let is : o ≡ Some v = cc in rw is
number_from_optional Wrong c o e k h = cc
