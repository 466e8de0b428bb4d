-- The table that is opened over a text, where the text keeps the form and where it does not.
use Rattle.std.proofs.Common.{◌≡◌, ℕ, List, Some, None, Ok, Err, Option, Result, sym, ap, ◌∙◌, arith}
use Rattle.lines.specs.Field.{bind}
use Rattle.texts.specs.declared.place.TextPlace.{TextPlace}
use Rattle.texts.specs.declared.rows.TextRows.{TextRows}
use Rattle.texts.specs.Form.{TextLines, parsed}
use Rattle.texts.specs.Rows.{text_value}
use Rattle.textparts.specs.Said.{table_of, opened}
use Rattle.texttable.specs.Texts.{or_empty, fault_of, meaning_in, meaning_of, refused_at, Opened}
use Rattle.texttable.specs.declared.table.TextTable.{TextTable}
use Rattle.textparts.proofs.Whole.{only_text}

abbrev table : TextRows → Option TextPlace → TextTable
table rows place = record { rows = rows; refused = place }

pub kept_opened : (text : List ℕ) (rows : TextRows) → parsed text ≡ Ok (text_value rows) → Opened text (table rows None)
unfolding meaning_of
kept_opened text rows e = record {
  means = ap (λ r. meaning_in (or_empty r)) (sym e);
  refused = ap fault_of (sym e);
  says = λ _. ap (λ r. bind r (λ t. Ok (table_of t))) e;
  same_text = λ _. only_text text (table_of (text_value rows)) (ap (λ r. bind r (λ t. Ok (table_of t))) e);
  empty = λ p h. absurd (let z : ◌≡◌ {A = ℕ} 0 1 = cc in omega arith);
}

-- a text that is refused says no table, and is refused at that place
pub refused_text : (text : List ℕ) (t : TextTable) (p : TextPlace) → Opened text t → refused_at t ≡ Some p → opened text ≡ Err p
refused_text text t p o e = way (parsed text) (sym e ∙ o.refused)
  where
    way : (r : Result TextLines TextPlace) → Some p ≡ fault_of r → bind r (λ l. Ok (table_of l)) ≡ Err p
    way (Ok l) h = cc
    way (Err q) h = let same : p ≡ q = cc in ap Err (sym same)
