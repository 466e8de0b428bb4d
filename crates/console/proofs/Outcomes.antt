-- What comes of a text whose table does not pass the check.
use Rattle.std.proofs.Common.{◌≡◌, ℕ, ◌≤◌, cond, List, length, Some, None, Err, Option, sym, ap, ◌∙◌, refl, arith}
use Rattle.std.proofs.lemmas.Bool.{le-ltb}
use Rattle.tables.specs.declared.fault.Fault.{Fault}
use Rattle.texts.specs.declared.place.TextPlace.{TextPlace}
use Rattle.textparts.specs.Said.{opened}
use Rattle.texttable.specs.Texts.{Opened, checked, form_fault, refused_at}
use Rattle.texttable.specs.declared.table.TextTable.{TextTable}
use Rattle.texttable.proofs.Openings.{refused_text}
use Rattle.console.specs.Outcome.{header_of, too_long, outcome}

pub refused_outcome : (text : List ℕ) (t : TextTable) (f : Fault TextPlace) → length text ≤ 20000 → Opened text t → Err f ≡ checked (refused_at t) → outcome text ≡ Err f
refused_outcome text t f short o e = way (refused_at t) refl e
  where
    way : (r : Option TextPlace) → refused_at t ≡ r → Err f ≡ checked r → outcome text ≡ Err f
    way None h e = let z : ◌≡◌ {A = ℕ} 0 1 = cc in absurd (omega arith)
    way (Some p) h e =
        ap (λ b. cond b (Err (too_long (length text))) (header_of (opened text))) (le-ltb 20000 (length text) short)
        ∙ ap header_of (refused_text text t p o h) ∙ ap Err (sym same)
      where
        same : f ≡ form_fault p
        same = cc
