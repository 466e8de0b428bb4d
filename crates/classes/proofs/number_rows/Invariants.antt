use Rattle.classes.specs.Numbering.{row_has, Numbering, Outside}
use Rattle.classes.proofs.number_rows.Given as goal

abbrev pub invariant-loop-m : goal.invariant-loop-m
invariant-loop-m l = record {
  numbered : Numbering (row_has l.at.rows l.initial.words) l.at l.most l.m l.found l.words;
  outside : Outside l.at l.most l.initial.words l.words;
}
