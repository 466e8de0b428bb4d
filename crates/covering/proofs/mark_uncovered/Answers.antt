use Rattle.rows.specs.Bits.{has}
use Rattle.covering.proofs.Uncovered.{marks_uncovered}
use Rattle.covering.proofs.mark_uncovered.Goals as goal

pub returns-clause-covers : goal.returns-clause-covers
returns-clause-covers c = λ t a says. marks_uncovered t a c.args.graph _ _ says (has c.uncovered.new.words c.args.row.marks) c.uncovered.ensures.led
