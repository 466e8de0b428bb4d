-- The code's reading against the form's.
use Rattle.std.specs.Prelude.{◌≡◌, ℕ, Bool, false, List, [], ◌∷◌, Ok, Err, Result}
use Rattle.std.specs.Option.{option_map}
use Rattle.texts.specs.declared.reader.Reader.{Reader}
use Rattle.texts.specs.declared.unreadable.Unreadable.{Unreadable}
use Rattle.texts.specs.declared.unreadable.Unreadable.TheVariants.{Memory, Form}
use Rattle.texts.specs.Cut.{held_lines, held_whole}
use Rattle.texts.specs.Form.{At, at, Step, starts}

-- where a reader is
abbrev pub here : Reader → At
here r = at r.line (held_lines (option_map (λ l. l.now) r.next) r.rest.now) (held_whole (option_map (λ l. l.now) r.next) r.rest.now)

-- no line is left, and none is begun
abbrev pub spent_by : List (List ℕ) → Bool → Bool
spent_by [] whole = whole
spent_by (l ∷ ls) whole = false

abbrev pub spent : At → Bool
spent p = spent_by p.left p.whole

-- The result is exactly what the form says: the value `f` of it and where the reading is then, or the place of the fault.
-- For want of memory nothing is said.
abbrev pub Exactly : {A B : Type 0} → (A → B) → Result A Unreadable → At → Step B → Type 0
Exactly f (Ok a) q s = s ≡ Ok (f a, q)
Exactly f (Err Memory) q s = Unit {0}
Exactly f (Err (Form p)) q s = s ≡ Err p

-- the next line has the letter k
abbrev pub next_starts : ℕ → List (List ℕ) → Bool
next_starts k [] = false
next_starts k (l ∷ ls) = starts k l
