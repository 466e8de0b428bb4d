use Rattle.classes.specs.Copies.{Copied}
use Rattle.classes.proofs.copy_first_rows.Given as goal

abbrev pub invariant-loop-a : goal.invariant-loop-a
invariant-loop-a l = Copied l.at l.to l.a l.initial.words l.words
