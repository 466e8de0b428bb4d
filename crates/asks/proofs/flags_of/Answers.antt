use Rattle.std.proofs.Common.{rules}
use Rattle.asks.proofs.Read.{flags_told}
use Rattle.asks.proofs.flags_of.Goals as goal

pub returns-clause-answer : goal.returns-clause-answer
returns-clause-answer g c = flags_told _ _ _ _ c.module.ensures.answer (search rules)
