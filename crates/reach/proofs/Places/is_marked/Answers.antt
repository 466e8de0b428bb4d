use Rattle.std.proofs.Common.{sym, ap, ◌∙◌}
use Rattle.rows.specs.Bits.{has}
use Rattle.reach.proofs.Parts.{marked_is}
use Rattle.reach.proofs.Places.is_marked.Goals as goal

pub returns : goal.returns
returns c =
    c.test.ensures ∙ ap (has c.args.words.now c.args.self.marks) c.bit.ensures
    ∙ sym (marked_is c.args.words.now c.args.self c.args.w c.requires)
