use Rattle.covering.proofs.Cycles.{answers_cyclic}
use Rattle.covering.proofs.rows_have_cycle.Goals as goal

pub returns-clause-answer : goal.returns-clause-answer
returns-clause-answer c = λ g says. answers_cyclic g c.args.graph c.args.words.now says c.has_cycle.result c.has_cycle.ensures.answer
