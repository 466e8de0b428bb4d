use Rattle.std.proofs.Common.{sym, refl, subst}
use Rattle.std.proofs.lemmas.Result.{err_from_is_err_and}
use Rattle.classes.specs.Numbering.{Layout}
use Rattle.classes.proofs.Steps.{firsts_below, number_none, over_on}
use Rattle.classes.proofs.number_rows.Goals as goal

pub loop-m-init : goal.loop-m-init
loop-m-init c = record { numbered = number_none _ _ _; outside = λ k o. refl }

pub number_row-requires : goal.number_row-requires
number_row-requires c =
    let numbered = c.loop-m.invariant.numbered in
    record {
      layout = subst (Layout c.args.at c.args.most) (sym c.loop-m.auto.words) c.requires;
      row_in = c.loop-m-test.true;
      at_most = numbered.at_most;
      few = numbered.few;
      firsts_below = firsts_below numbered c.loop-m.auto.m-end;
    }

pub returns-in_err-found-clause-numbered : goal.returns-in_err-found-clause-numbered
returns-in_err-found-clause-numbered c =
    let p = err_from_is_err_and c.from_residual.result c.from_residual.ensures.1 in
    rw (p.1, p.2) (over_on _ c.loop-m.m c.args.at.count c.args.most _ c.loop-m-test.true (c.in_err-found.ensures.numbered _ c.loop-m.invariant.numbered))
