-- What the protected list objects to.
use Rattle.std.specs.Prelude.{ℕ, Bool, List, ◌==◌}
use Rattle.std.specs.List.{list_any}

-- m stands in the list
abbrev pub among : List ℕ → ℕ → Bool
among xs m = list_any (λ x. x == m) xs

-- some module of the second list stands in the first
abbrev pub any_among : List ℕ → List ℕ → Bool
any_among xs ms = list_any (among xs) ms
