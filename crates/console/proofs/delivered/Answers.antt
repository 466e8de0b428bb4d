use Rattle.std.proofs.Common.{rules}
use Rattle.console.proofs.Outcomes.{refused_outcome}
use Rattle.console.proofs.delivered.Goals as goal

pub returns-in_err-check : goal.returns-in_err-check
returns-in_err-check c =
    let none = refused_outcome c.args.text.now c.in_ok-table.table _ c.if-text-gt-LONGEST.false c.in_ok-table.ensures c.in_err-check.ensures in
    search (rules, none)
