-- What the program writes for a text.
use Rattle.std.specs.Prelude.{◌≡◌, ℕ, cond, List, [], ◌∷◌, length, Some, Ok, Err, vec_items, Result, nat_lt}
use Rattle.std.specs.Option.{option_map}
use Rattle.tables.specs.Causes.{number_of, bare_fault}
use Rattle.tables.specs.Value.{Table}
use Rattle.tables.specs.declared.fault.Cause.TheVariants.{TooMany}
use Rattle.tables.specs.declared.fault.Fault.{Fault}
use Rattle.texts.specs.declared.place.TextPlace.{TextPlace}
use Rattle.textparts.specs.Said.{opened}
use Rattle.texttable.specs.Texts.{form_fault}
use Rattle.written.specs.Written.{fields_line}
use Rattle.console.specs.declared.Answer.{Answer}
use Rattle.console.specs.declared.Answer.TheVariants as answer
use Rattle.console.specs.declared.Answer.TheVariants.{Delivered}
use Rattle.console.specs.declared.stop.Stop.{Stop}
use Rattle.console.specs.declared.stop.Stop.TheVariants.{Memory, Refused}

-- T: modules, entries, symbols, runtime, strict
abbrev pub header_line : Table → List ℕ
header_line t =
    fields_line 84 (Some (length t.modules) ∷ Some (length t.entries) ∷ Some (length t.symbols) ∷ t.runtime ∷ Some (cond t.strict 1 0) ∷ [])

-- F: number, line, column, blank where there is no place
abbrev pub fault_line : Fault TextPlace → List ℕ
fault_line f = fields_line 70 (Some (number_of f.cause) ∷ option_map (λ p. p.line) f.place ∷ option_map (λ p. p.column) f.place ∷ [])

-- a text that is longer than any that is read
abbrev pub too_long : ℕ → Fault TextPlace
too_long n = bare_fault (TooMany n)

-- the header of the table that a text says, or its first fault
abbrev pub header_of : Result Table TextPlace → Result (List ℕ) (Fault TextPlace)
header_of (Ok t) = Ok (header_line t)
header_of (Err p) = Err (form_fault p)

abbrev pub outcome : List ℕ → Result (List ℕ) (Fault TextPlace)
outcome text = cond (nat_lt 20000 (length text)) (Err (too_long (length text))) (header_of (opened text))

-- the code's answer is the outcome: the bytes of what is delivered, or the line of the fault
abbrev pub Answered : List ℕ → Answer → Type 0
Answered text (Delivered v) = outcome text ≡ Ok (vec_items v)
Answered text (answer.Refused v) = (f : Fault TextPlace) × (outcome text ≡ Err f) × (vec_items v ≡ fault_line f)

-- the code's result, by the bytes of what it holds, is the outcome, but for want of memory
abbrev pub Delivers : {A : Type 0} → (A → List ℕ) → Result A Stop → Result (List ℕ) (Fault TextPlace) → Type 0
Delivers bytes (Ok v) o = o ≡ Ok (bytes v)
Delivers bytes (Err Memory) o = Unit {0}
Delivers bytes (Err (Refused f)) o = o ≡ Err f
