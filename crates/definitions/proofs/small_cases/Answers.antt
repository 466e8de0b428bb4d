use Rattle.definitions.proofs.Cases as cases
use Rattle.definitions.proofs.small_cases.Goals as goal

pub returns : goal.returns
returns c = cases.small_cases
