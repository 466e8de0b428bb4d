use Rattle.std.proofs.Common.{◌+◌, ap, ◌∙◌}
use Rattle.lines.specs.Field.{as_read, field}
use Rattle.lines.proofs.Fields.{number_from_optional}
use Rattle.lines.proofs.field.read_number.Goals as goal

pub returns : goal.returns
returns c =
    ap as_read c.ok_or.ensures.value
    ∙ number_from_optional (field c.args.l.now c.args.at) _ _ _ (ap (λ n. n + 2) c.from.ensures) c.in_ok-read_optional.ensures
