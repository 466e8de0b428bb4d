-- A text, cut into its next line and what is behind that.
use Rattle.std.specs.Prelude.{◌≡◌, ℕ, ◌+◌, ◌≤◌, Bool, true, false, List, [], ◌∷◌, length, Some, None, Option}
use Rattle.texts.specs.Form.{lines_of, finished}

abbrev pub is_empty : List ℕ → Bool
is_empty [] = true
is_empty (b ∷ bs) = false

-- The lines of a text that is cut into its next line and the bytes `rest` behind it; without a next line the rest has none.
abbrev pub held_lines : Option (List ℕ) → List ℕ → List (List ℕ)
held_lines None rest = []
held_lines (Some l) rest = l ∷ lines_of rest

-- every byte of that text belongs to a finished line
abbrev pub held_whole : Option (List ℕ) → List ℕ → Bool
held_whole None rest = is_empty rest
held_whole (Some l) rest = finished rest

-- how many next lines there are: 0 or 1
abbrev pub ahead : {A : Type 0} → Option A → ℕ
ahead None = 0
ahead (Some l) = 1

-- a text, cut into its next line and what is behind it
pub record Cut (text : List ℕ) (next : Option (List ℕ)) (rest : List ℕ) : Type 0 where
  pub lines : held_lines next rest ≡ lines_of text
  pub whole : held_whole next rest ≡ finished text
  pub shorter : ahead next + length rest ≤ length text
