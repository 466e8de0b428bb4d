use Rattle.definitions.proofs.Laws as laws
use Rattle.definitions.proofs.decisions_stand.Goals as goal

pub returns : goal.returns
returns c = laws.decisions
