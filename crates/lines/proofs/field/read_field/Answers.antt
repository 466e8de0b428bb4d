use Rattle.std.proofs.Common.{ap, ◌∙◌, rules}
use Rattle.lines.specs.Field.{field}
use Rattle.lines.proofs.Fields.{field_by}
use Rattle.lines.proofs.field.read_field.Goals as goal

pub returns : goal.returns
returns c =
    field_by (λ b. b.now) c.args.l.now c.from-at.result c.map_or.result c.get.result c.get.ensures.lookup (search rules)
    ∙ ap (field c.args.l.now) c.from-at.ensures
