use Rattle.definitions.proofs.Cases.{refusals}
use Rattle.definitions.proofs.small_refusals.Goals as goal

pub returns : goal.returns
returns c = refusals
