use Rattle.std.proofs.Common.{rules}
use Rattle.std.proofs.lemmas.Result.{err_from_is_err_and}
use Rattle.texts.specs.Rows.{numbered_by}
use Rattle.texts.specs.Form.{lines_of, finished}
use Rattle.texts.proofs.OneKind.{wrong_kind}
use Rattle.texts.proofs.reader.Reader.read_one.Goals as goal

pub returns-in_err-line : goal.returns-in_err-line
returns-in_err-line g c =
    let p = err_from_is_err_and c.from_residual.result c.from_residual.ensures.1 in
    rw (p.1, p.2, c.in-Some.is)
    (wrong_kind g.L.LineKind.value (numbered_by g.L.LineKind.value) g.L.LineKind.letter c.args.self.now.line (finished c.args.self.now.rest.now)
    c.in-Some.held.now (lines_of c.args.self.now.rest.now) c.read_as.result c.in_err-line.field-0.0 _ c.read_as.ensures (search rules))
