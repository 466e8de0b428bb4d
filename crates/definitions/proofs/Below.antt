-- The tests over the numbers below a bound and over a list decide what they say.
use Rattle.std.proofs.Common.{◌≡◌, ℕ, ◌+◌, ◌<◌, Bool, true, false, ◌||◌, List, [], ◌∷◌, ◌++◌, length, get_or, take, Decides, sym, refl, ap, ◌∙◌}
use mathlib.Core.Bool.{or-false}
use Rattle.std.proofs.lemmas.List.{take_more}
use Rattle.std.specs.List.{HoldsAt, AllByRecursion as All}
use Rattle.std.proofs.lemmas.Bool.Decides.{Decides-below_or, Decides-below_and, Decides-by_or}
use Rattle.std.proofs.ByRecursion.{Decides-by_and}
use Rattle.tables.specs.Below.{some_below, every_below, some_of, each_of}

pub some_below_decides : (p : ℕ → Bool) (P : ℕ → Type 0) → ((k : ℕ) → Decides (p k) (P k)) → (n : ℕ) → Decides (some_below n p) ((k : ℕ) × (k < n) × P k)
some_below_decides p P each n = Decides-below_or p P (λ m. some_below m p) each refl (λ _. refl) n

pub every_below_decides : (p : ℕ → Bool) (P : ℕ → Type 0) → ((k : ℕ) → Decides (p k) (P k)) → (n : ℕ) → Decides (every_below n p) ((k : ℕ) → k < n → P k)
every_below_decides p P each n = Decides-below_and p P (λ m. every_below m p) each refl (λ _. refl) n

pub some_of_decides : {A : Type 0} (p : A → Bool) (P : A → Type 0) → ((x : A) → Decides (p x) (P x)) → (xs : List A) → Decides (some_of p xs) ((k : ℕ) × (k < length xs) × HoldsAt P xs k)
some_of_decides p P each xs = Decides-by_or p P (some_of p) each refl (λ _ _. refl) xs

pub each_of_decides : {A : Type 0} (p : A → Bool) (P : A → Type 0) → ((x : A) → Decides (p x) (P x)) → (xs : List A) → Decides (each_of p xs) (All P xs)
each_of_decides p P each xs = Decides-by_and p P (each_of p) each refl (λ _ _. refl) xs

-- a number that passes
pub some_below_one : (n : ℕ) (p : ℕ → Bool) → some_below n p ≡ true → (k : ℕ) × (k < n) × (p k ≡ true)
some_below_one n p h = (some_below_decides p (λ k. p k ≡ true) (λ k. (λ x. x, λ x. x)) n).0 h

or_assoc : (a b c : Bool) → ((a || b) || c) ≡ (a || (b || c))
or_assoc true b c = refl
or_assoc false b c = refl

pub some_of_append : {A : Type 0} (p : A → Bool) (xs ys : List A) → some_of p (xs ++ ys) ≡ (some_of p xs || some_of p ys)
some_of_append p [] ys = refl
some_of_append p (x ∷ xs) ys = ap (◌||◌ (p x)) (some_of_append p xs ys) ∙ sym (or_assoc (p x) (some_of p xs) (some_of p ys))

-- a loop's step: one element more
pub some_of_more : {A : Type 0} (p : A → Bool) (xs : List A) (i : ℕ) (d : A) → i < length xs → some_of p (take (i + 1) xs) ≡ (some_of p (take i xs) || p (get_or xs i d))
some_of_more p xs i d l = ap (some_of p) (take_more xs i d l) ∙ some_of_append p (take i xs) (get_or xs i d ∷ []) ∙ ap (◌||◌ (some_of p (take i xs))) (or-false (p (get_or xs i d)))
