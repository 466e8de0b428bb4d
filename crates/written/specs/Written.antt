-- Fields and lines as they are written.
use Rattle.std.specs.Prelude.{ℕ, zero, suc, ◌+◌, ◌/◌, ◌%◌, Bool, cond, List, [], ◌∷◌, ◌++◌, Some, None, Option, ◌==◌}
use Rattle.std.specs.List.{flat_map}

-- a column of a number, from what is left of it there: blank where nothing is
abbrev pub digit6 : ℕ → ℕ
digit6 v = cond (v == 0) 32 (48 + v % 10)

-- the digits of v in k columns
abbrev pub padded : ℕ → ℕ → List ℕ
padded zero v = []
padded (suc k) v = padded k (v / 10) ++ digit6 v ∷ []

-- the fields, of six columns each: a number; a number or blank; 0 or 1
abbrev pub number6 : ℕ → List ℕ
number6 v = padded 5 (v / 10) ++ (48 + v % 10) ∷ []

abbrev pub field6 : Option ℕ → List ℕ
field6 None = padded 6 0
field6 (Some v) = number6 v

abbrev pub bit6 : Bool → List ℕ
bit6 b = number6 (cond b 1 0)

-- a letter, then the fields, and the line's end
abbrev pub line : ℕ → List ℕ → List ℕ
line k l = k ∷ (l ++ 10 ∷ [])

abbrev pub fields_line : ℕ → List (Option ℕ) → List ℕ
fields_line k fs = line k (flat_map field6 fs)
