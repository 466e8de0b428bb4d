-- What a text means, and what the table that is opened over it means.
use Rattle.std.specs.Prelude.{◌≡◌, ℕ, false, List, [], ◌∷◌, Some, None, Ok, Err, Option, Result}
use Rattle.lines.specs.Lines.{values}
use Rattle.tables.specs.Value.{Table, Meaning}
use Rattle.tables.specs.declared.fault.Cause.TheVariants.{BrokenForm}
use Rattle.tables.specs.declared.fault.Fault.{Fault}
use Rattle.tables.specs.declared.thing.Field.TheVariants.{Whole}
use Rattle.texts.specs.declared.place.TextPlace.{TextPlace}
use Rattle.texts.specs.Form.{TextLines, line_at, parsed}
use Rattle.texts.specs.Rows.{text_value}
use Rattle.textparts.specs.Said.{table_of, opened}
use Rattle.textparts.specs.Written.{written}
use Rattle.textparts.specs.Places.{place_in}
use Rattle.texttable.specs.declared.table.TextTable.{TextTable}

-- a T line that says no module, no entry, no symbol, no runtime and not strict, and no other line
abbrev pub empty_lines : TextLines
empty_lines = record {
  head = line_at 1 (values 84 (Some 0 ∷ Some 0 ∷ Some 0 ∷ None ∷ Some 0 ∷ []) []);
  modules = [];
  entries = [];
  symbols = [];
}

abbrev pub empty_table : Table
empty_table = record { modules = []; entries = []; symbols = []; runtime = None; strict = false }

-- the lines that a text says: those of the empty table where the text is refused
abbrev pub or_empty : Result TextLines TextPlace → TextLines
or_empty (Ok t) = t
or_empty (Err p) = empty_lines

abbrev pub lines_said : List ℕ → TextLines
lines_said text = or_empty (parsed text)

-- the place at which a text is refused
abbrev pub fault_of : Result TextLines TextPlace → Option TextPlace
fault_of (Ok t) = None
fault_of (Err p) = Some p

abbrev pub refusal : List ℕ → Option TextPlace
refusal text = fault_of (parsed text)

abbrev pub meaning_in : TextLines → Meaning TextPlace
meaning_in t = record { table = table_of t; place = place_in t }

abbrev pub text_meaning : List ℕ → Meaning TextPlace
text_meaning text = meaning_in (lines_said text)

unfoldable pub meaning_of : TextTable → Meaning TextPlace
meaning_of t = meaning_in (text_value t.rows)

abbrev pub refused_at : TextTable → Option TextPlace
refused_at t = t.refused

-- a text that breaks the form, and where
abbrev pub form_fault : TextPlace → Fault TextPlace
form_fault p = record { cause = BrokenForm p.line p.column; thing = None; field = Whole; place = Some p }

abbrev pub checked : Option TextPlace → Result (Unit {0}) (Fault TextPlace)
checked None = Ok tt
checked (Some p) = Err (form_fault p)

-- a table that is opened over a text
pub record Opened (text : List ℕ) (t : TextTable) : Type 0 where
  -- it means what the text says
  pub means : meaning_of t ≡ text_meaning text
  -- and knows where the text breaks the form
  pub refused : refused_at t ≡ refusal text
  -- a text that keeps the form says its table,
  pub says : refused_at t ≡ None → opened text ≡ Ok (meaning_of t).table
  -- of which it is the only text
  pub same_text : refused_at t ≡ None → written (meaning_of t).table ≡ text
  -- a text that breaks the form gives the empty table
  pub empty : (p : TextPlace) → refused_at t ≡ Some p → (meaning_of t).table ≡ empty_table
