use Rattle.std.proofs.Common.{sym, ap, ◌∙◌}
use Rattle.lines.specs.Field.{read_by}
use Rattle.texts.specs.Form.{starts}
use Rattle.texts.proofs.OneKind.{as_kind}
use Rattle.texts.proofs.cut.read_as.Goals as goal

pub returns : goal.returns
returns g c =
    ap (read_by g.L.LineKind.value) c.ok_or.ensures.value
    ∙ as_kind g.L.LineKind.value g.L.LineKind.letter c.args.line.now _ _
    (ap (λ k. starts k c.args.line.now) (sym c.letter.ensures) ∙ sym c.if-not-has_letter.ensures) (sym c.in_ok-read_line.ensures) _ c.of.ensures
