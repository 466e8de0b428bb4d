use Rattle.checks.proofs.Scans.{new_told}
use Rattle.checks.proofs.names.NewNameCheck.check.Goals as goal

pub returns-clause-answer : goal.returns-clause-answer
returns-clause-answer g c =
    let asked = c.in-Some.ensures in
    new_told _ _ c.args.self.now.m asked.kept c.args.i _ _ asked.answer c.check_each.ensures.answer
