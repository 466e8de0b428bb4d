use Rattle.tables.proofs.Links.{chains}
use Rattle.tables.proofs.chains_end.Goals as goal

pub returns : goal.returns
returns c = chains
