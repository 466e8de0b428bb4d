-- Tests and lists over the numbers below a bound, and over a list.
--     some_below n p, every_below n p      some number below n passes p; each does
--     count_below n p      how many numbers below n pass p
--     those_below n p      the numbers below n that pass p, rising
--     some_of p xs, each_of p xs      some element of xs passes p; each does
--     listed x xs      x stands in xs
--     is o x      o is Some x
--     place p xs      the first place in xs that passes p
use Rattle.std.specs.Prelude.{ℕ, zero, suc, ◌+◌, Bool, true, false, cond, ◌&&◌, ◌||◌, List, [], ◌∷◌, ◌++◌, Some, None, Option, ◌==◌, nat_eq}

abbrev pub some_below : ℕ → (ℕ → Bool) → Bool
some_below zero p = false
some_below (suc n) p = p n || some_below n p

abbrev pub every_below : ℕ → (ℕ → Bool) → Bool
every_below zero p = true
every_below (suc n) p = p n && every_below n p

abbrev pub count_below : ℕ → (ℕ → Bool) → ℕ
count_below zero p = 0
count_below (suc n) p = count_below n p + cond (p n) 1 0

abbrev pub those_below : ℕ → (ℕ → Bool) → List ℕ
those_below zero p = []
those_below (suc n) p = those_below n p ++ cond (p n) (n ∷ []) []

abbrev pub some_of : {A : Type 0} → (A → Bool) → List A → Bool
some_of p [] = false
some_of p (x ∷ xs) = p x || some_of p xs

abbrev pub each_of : {A : Type 0} → (A → Bool) → List A → Bool
each_of p [] = true
each_of p (x ∷ xs) = p x && each_of p xs

abbrev pub listed : ℕ → List ℕ → Bool
listed x xs = some_of (nat_eq x) xs

abbrev pub is : Option ℕ → ℕ → Bool
is None x = false
is (Some y) x = y == x

abbrev pub next : Option ℕ → Option ℕ
next None = None
next (Some k) = Some (k + 1)

abbrev pub place : {A : Type 0} → (A → Bool) → List A → Option ℕ
place p [] = None
place p (x ∷ xs) = cond (p x) (Some 0) (next (place p xs))
