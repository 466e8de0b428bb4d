use Rattle.texttable.proofs.Openings.{kept_opened}
use Rattle.texttable.proofs.table.TextTable.open.Goals as goal

pub returns-in-Ok : goal.returns-in-Ok
returns-in-Ok c = kept_opened c.args.text.now c.in-Ok.rows c.in-Ok.ensures
