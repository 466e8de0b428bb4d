-- Names, by their bytes.
use Rattle.std.specs.Prelude.{ℕ, Bool, true, false, ◌&&◌, ◌||◌, List, [], ◌∷◌, ◌==◌, nat_lt}

-- xs comes before ys: the first byte that differs is smaller, or xs is a proper front of ys
unfoldable pub name_before : List ℕ → List ℕ → Bool
name_before xs [] = false
name_before [] (y ∷ ys) = true
name_before (x ∷ xs) (y ∷ ys) = nat_lt x y || (x == y && name_before xs ys)

unfoldable pub same_name : List ℕ → List ℕ → Bool
same_name [] [] = true
same_name [] (y ∷ ys) = false
same_name (x ∷ xs) [] = false
same_name (x ∷ xs) (y ∷ ys) = x == y && same_name xs ys
