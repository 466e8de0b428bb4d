-- A field that is read is the field as it is written.
use Rattle.std.proofs.Common.{◌≡◌, ℕ, zero, suc, ◌+◌, ◌-◌, ◌*◌, ◌/◌, ◌%◌, ◌<◌, ◌≤◌, Bool, true, false, cond, ◌&&◌, eqb, ltb, leb, List, [], ◌∷◌, ◌++◌, length, get_or, take, drop, Some, None, Ok, Err, Option, Result, sym, refl, ap, ◌∙◌, subst, arith, length-drop}
use lib.Arith.{digits_div, digits_mod}
use Rattle.std.proofs.lemmas.List.{append-nil, append_assoc, take-append-drop, drop-drop, drop_all, drop_more, length-take-le}
use Rattle.std.proofs.lemmas.Bool.{cond_both, eqb-true, eqb-false, leb-true, ltb-true, and_parts, ne_eqb}
use Rattle.lines.specs.declared.field.Field.{Field}
use Rattle.lines.specs.declared.field.Field.TheVariants.{Blank, Zero, Number, Wrong}
use Rattle.lines.specs.Field.{bind, is_digit, column, columns, field, number_in, optional_in, number, optional, bit, name, ended}
use Rattle.written.specs.Written.{padded, number6, field6, bit6}

-- what k columns that say f look like
abbrev Shows : Field → ℕ → List ℕ → Type 0
Shows Blank k bs = bs ≡ padded k 0
Shows Zero zero bs = ⊥
Shows Zero (suc k) bs = bs ≡ padded k 0 ++ 48 ∷ []
Shows (Number v) k bs = (0 < v) × (bs ≡ padded k v)
Shows Wrong k bs = Unit {0}

-- one digit more
last : (k v d w : ℕ) → w ≡ v * 10 + d → d < 10 → 0 < w → padded (suc k) w ≡ padded k v ++ (48 + d) ∷ []
last k v d w e lt pos =
    ap (λ x. padded k (w / 10) ++ cond x 32 (48 + w % 10) ∷ []) (ne_eqb w 0 (λ z. omega arith))
    ∙ ap (λ x. padded k (x / 10) ++ (48 + x % 10) ∷ []) e
    ∙ ap (λ x. padded k x ++ (48 + (v * 10 + d) % 10) ∷ []) (digits_div v lt)
    ∙ ap (λ x. padded k v ++ (48 + x) ∷ []) (digits_mod v lt)

-- a digit behind the columns bs, which show v
digit_step : (k v b w : ℕ) (bs : List ℕ) → bs ≡ padded k v → 48 ≤ b → b ≤ 57 → w ≡ v * 10 + (b - 48) → 0 < w → (0 < w) × (bs ++ b ∷ [] ≡ padded (suc k) w)
digit_step k v b w bs e lo hi we pos =
    let same : b ≡ 48 + (b - 48) = omega arith in
    (pos, ap (λ l. l ++ b ∷ []) e ∙ ap (λ x. padded k v ++ x ∷ []) same ∙ sym (last k v (b - 48) w we (omega arith) pos))

step : (f : Field) (b k : ℕ) (bs : List ℕ) → Shows f k bs → Shows (column f b) (suc k) (bs ++ b ∷ [])
step Blank b k bs e =
    let P : Field → Type 0 = λ g. Shows g (suc k) (bs ++ b ∷ []) in
    let look : (x : ℕ) → b ≡ x → bs ++ b ∷ [] ≡ padded k 0 ++ x ∷ [] = λ x h. ap (λ l. l ++ b ∷ []) e ∙ ap (λ y. padded k 0 ++ y ∷ []) h in
    cond_both (eqb b 32) Blank _ P (λ h. look 32 (eqb-true b 32 h))
    (λ _. cond_both (eqb b 48) Zero _ P (λ h. look 48 (eqb-true b 48 h))
    (λ n. cond_both (is_digit b) (Number (b - 48)) Wrong P
    (λ h.
    let two = and_parts (leb 48 b) (leb b 57) h in
    let lo : 48 ≤ b = leb-true 48 b two.0 in
    let pos : 0 < b - 48 = omega (arith, eqb-false b 48 n) in
    digit_step k 0 b (b - 48) bs e lo (leb-true b 57 two.1) (omega arith) pos)
    (λ _. tt)))
step Zero b k bs e = tt
step (Number v) b k bs e =
    cond_both (is_digit b) (Number (v * 10 + (b - 48))) Wrong (λ g. Shows g (suc k) (bs ++ b ∷ []))
    (λ h.
    let two = and_parts (leb 48 b) (leb b 57) h in
    let pos : 0 < v * 10 + (b - 48) = omega (arith, e.0) in
    digit_step k v b (v * 10 + (b - 48)) bs e.1 (leb-true 48 b two.0) (leb-true b 57 two.1) refl pos)
    (λ _. tt)
step Wrong b k bs e = tt

shows : (f : Field) (k : ℕ) (done rest : List ℕ) → Shows f k done → Shows (columns f rest) (k + length rest) (done ++ rest)
shows f k done [] h =
    let same : k ≡ k + 0 = omega arith in
    subst (λ n. Shows f n (done ++ [])) same (subst (λ l. Shows f k l) (sym (append-nil done)) h)
shows f k done (b ∷ rest) h =
    let same : suc k + length rest ≡ k + suc (length rest) = omega arith in
    let g : Field = columns (column f b) rest in
    subst (λ n. Shows g n (done ++ (b ∷ rest))) same
    (subst (λ l. Shows g (suc k + length rest) l) (append_assoc done (b ∷ []) rest) (shows (column f b) (suc k) (done ++ b ∷ []) rest (step f b k done h)))

six : (bs : List ℕ) → length bs ≡ 6 → Shows (columns Blank bs) 6 bs
six bs e =
    let same : 0 + length bs ≡ 6 = omega arith in
    subst (λ n. Shows (columns Blank bs) n bs) same (shows Blank 0 [] bs refl)

module _ (l : List ℕ) (at : ℕ) where
  field_shows : Shows (field l at) 6 (take 6 (drop at l))
  field_shows =
      cond_both (leb (at + 6) (length l)) (columns Blank (take 6 (drop at l))) Wrong (λ g. Shows g 6 (take 6 (drop at l)))
      (λ e. six (take 6 (drop at l)) (length-take-le 6 (drop at l) (omega (arith, leb-true (at + 6) (length l) e, length-drop at l))))
      (λ _. tt)

  split : (xs : List ℕ) → take 6 (drop at l) ≡ xs → drop at l ≡ xs ++ drop (at + 6) l
  split xs e = sym (take-append-drop 6 (drop at l)) ∙ ap (λ x. x ++ drop 6 (drop at l)) e ∙ ap (λ r. xs ++ r) (drop-drop 6 at l)

positive : (v : ℕ) → 0 < v → padded 6 v ≡ number6 v
positive v pos = ap (λ x. padded 5 (v / 10) ++ cond x 32 (48 + v % 10) ∷ []) (ne_eqb v 0 (λ z. omega arith))

from_number : (g : Field) (bs : List ℕ) (c v : ℕ) → Shows g 6 bs → number_in g c ≡ Ok v → bs ≡ number6 v
from_number Blank bs c v s h = absurd (let z : ◌≡◌ {A = ℕ} 0 1 = cc in omega arith)
from_number Zero bs c v s h = let same : 0 ≡ v = cc in s ∙ ap number6 same
from_number (Number u) bs c v s h = let same : u ≡ v = cc in s.1 ∙ positive u s.0 ∙ ap number6 same
from_number Wrong bs c v s h = absurd (let z : ◌≡◌ {A = ℕ} 0 1 = cc in omega arith)

from_optional : (g : Field) (bs : List ℕ) (c : ℕ) (v : Option ℕ) → Shows g 6 bs → optional_in g c ≡ Ok v → bs ≡ field6 v
from_optional Blank bs c v s h = let same : None ≡ v = cc in s ∙ ap field6 same
from_optional Zero bs c v s h = let same : Some 0 ≡ v = cc in s ∙ ap field6 same
from_optional (Number u) bs c v s h = let same : Some u ≡ v = cc in s.1 ∙ positive u s.0 ∙ ap field6 same
from_optional Wrong bs c v s h = absurd (let z : ◌≡◌ {A = ℕ} 0 1 = cc in omega arith)

pub number_back : (l : List ℕ) (at v : ℕ) → number l at ≡ Ok v → drop at l ≡ number6 v ++ drop (at + 6) l
number_back l at v h = split l at (number6 v) (from_number (field l at) (take 6 (drop at l)) (at + 2) v (field_shows l at) h)

pub optional_back : (l : List ℕ) (at : ℕ) (v : Option ℕ) → optional l at ≡ Ok v → drop at l ≡ field6 v ++ drop (at + 6) l
optional_back l at v h = split l at (field6 v) (from_optional (field l at) (take 6 (drop at l)) (at + 2) v (field_shows l at) h)

-- what a step stood on
pub inverted : {A B E : Type 0} (x : Result A E) (f : A → Result B E) (v : B) → bind x f ≡ Ok v → (a : A) × (x ≡ Ok a) × (f a ≡ Ok v)
inverted (Ok a) f v h = (a, refl, h)
inverted (Err e) f v h = absurd (let z : ◌≡◌ {A = ℕ} 0 1 = cc in omega arith)

pub ended_back : (l : List ℕ) (at : ℕ) (u : Unit {0}) → ended l at ≡ Ok u → drop at l ≡ []
ended_back l at u h = drop_all at l (way (eqb (length l) at) refl h)
  where
    way : (b : Bool) → eqb (length l) at ≡ b → ◌≡◌ {A = Result (Unit {0}) ℕ} (cond b (Ok tt) (Err 1)) (Ok u) → length l ≤ at
    way true e h = omega (arith, eqb-true (length l) at e)
    way false e h = absurd (let z : ◌≡◌ {A = ℕ} 0 1 = cc in omega arith)

-- a value is what an Ok holds
abbrev held_by : {A E : Type 0} → A → Result A E → A
held_by d (Ok a) = a
held_by d (Err e) = d

pub held : {A E : Type 0} (a b : A) → ◌≡◌ {A = Result A E} (Ok a) (Ok b) → a ≡ b
held a b e = ap (held_by a) e

small : (v : ℕ) → v < 2 → number6 v ≡ bit6 (eqb v 1)
small zero lt = refl
small (suc zero) lt = refl
small (suc (suc v)) lt = absurd (omega arith)

pub bit_back : (l : List ℕ) (at v : ℕ) → bit l at ≡ Ok v → drop at l ≡ bit6 (eqb v 1) ++ drop (at + 6) l
bit_back l at v h =
    let a = inverted (number l at) (λ v. cond (ltb v 2) (Ok v) (Err (at + 2))) v h in
    way a.0 (ltb a.0 2) refl a.1 a.2
  where
    way : (u : ℕ) (b : Bool) → ltb u 2 ≡ b → number l at ≡ Ok u → ◌≡◌ {A = Result ℕ ℕ} (cond b (Ok u) (Err (at + 2))) (Ok v) → drop at l ≡ bit6 (eqb v 1) ++ drop (at + 6) l
    way u true e x h =
        number_back l at u x
        ∙ ap (λ y. y ++ drop (at + 6) l) (small u (ltb-true u 2 e) ∙ ap (λ n. bit6 (eqb n 1)) (held u v h))
    way u false e x h = absurd (let z : ◌≡◌ {A = ℕ} 0 1 = cc in omega arith)

pub name_back : (l : List ℕ) (at : ℕ) (n : List ℕ) → name l at ≡ Ok n → drop at l ≡ 32 ∷ n
name_back l at n h =
    way (eqb (get_or l at 0) 32) (leb (at + 2) (length l)) (leb (length l) (at + 256)) refl refl h
  where
    way : (a b c : Bool) → eqb (get_or l at 0) 32 ≡ a → leb (at + 2) (length l) ≡ b →
        ◌≡◌ {A = Result (List ℕ) ℕ} (cond a (cond (b && c) (Ok (drop (at + 1) l)) (Err (at + 3))) (Err (at + 2))) (Ok n) → drop at l ≡ 32 ∷ n
    way true true true e lo h =
        let lt : at < length l = omega (arith, leb-true (at + 2) (length l) lo) in
        drop_more l at 0 lt ∙ ap (λ x. x ∷ drop (at + 1) l) (eqb-true (get_or l at 0) 32 e) ∙ ap (λ x. 32 ∷ x) (held (drop (at + 1) l) n h)
    way true true false e lo h = absurd (let z : ◌≡◌ {A = ℕ} 0 1 = cc in omega arith)
    way true false c e lo h = absurd (let z : ◌≡◌ {A = ℕ} 0 1 = cc in omega arith)
    way false b c e lo h = absurd (let z : ◌≡◌ {A = ℕ} 0 1 = cc in omega arith)

-- The same as steps of a reading: what is left from `at` on is the field and what is left behind it.
module _ {B P : Type 0} (l : List ℕ) (at : ℕ) where
  pub number_then : (f : ℕ → Result B ℕ) (v : B) → bind (number l at) f ≡ Ok v → ((a : ℕ) → drop at l ≡ number6 a ++ drop (at + 6) l → f a ≡ Ok v → P) → P
  number_then f v h go = let i = inverted (number l at) f v h in go i.0 (number_back l at i.0 i.1) i.2

  pub optional_then : (f : Option ℕ → Result B ℕ) (v : B) → bind (optional l at) f ≡ Ok v →
      ((a : Option ℕ) → drop at l ≡ field6 a ++ drop (at + 6) l → f a ≡ Ok v → P) → P
  optional_then f v h go = let i = inverted (optional l at) f v h in go i.0 (optional_back l at i.0 i.1) i.2

  pub bit_then : (f : ℕ → Result B ℕ) (v : B) → bind (bit l at) f ≡ Ok v → ((a : ℕ) → drop at l ≡ bit6 (eqb a 1) ++ drop (at + 6) l → f a ≡ Ok v → P) → P
  bit_then f v h go = let i = inverted (bit l at) f v h in go i.0 (bit_back l at i.0 i.1) i.2

  pub name_then : (f : List ℕ → Result B ℕ) (v : B) → bind (name l at) f ≡ Ok v → ((a : List ℕ) → drop at l ≡ 32 ∷ a → f a ≡ Ok v → P) → P
  name_then f v h go = let i = inverted (name l at) f v h in go i.0 (name_back l at i.0 i.1) i.2

  pub ended_then : (f : Unit {0} → Result B ℕ) (v : B) → bind (ended l at) f ≡ Ok v → (drop at l ≡ [] → f tt ≡ Ok v → P) → P
  ended_then f v h go = let i = inverted (ended l at) f v h in go (ended_back l at i.0 i.1) i.2
