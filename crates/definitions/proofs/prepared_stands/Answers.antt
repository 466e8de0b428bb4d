use Rattle.definitions.proofs.Prepared.{prepares}
use Rattle.definitions.proofs.prepared_stands.Goals as goal

pub returns : goal.returns
returns c = prepares
