use Rattle.definitions.proofs.Laws as laws
use Rattle.definitions.proofs.tests_agree.Goals as goal

pub returns : goal.returns
returns c = laws.tests_agree
