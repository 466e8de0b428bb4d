use Rattle.checks.proofs.Scans.{names_told}
use Rattle.checks.proofs.names.ModuleNamesCheck.check.Goals as goal

pub returns-clause-answer : goal.returns-clause-answer
returns-clause-answer g c =
    let asked = c.in-Some.ensures in
    names_told _ _ c.args.m asked.kept c.in-Some.info _ asked.answer c.check_each.ensures.answer
