use Rattle.std.proofs.Common.{ℕ, refl, ap}
use Rattle.graphs.specs.declared.adjacency.RowsAt.{RowsAt}
use Rattle.graphs.proofs.Covering.{cover_begins, cover_asks, cover_ready, cover_again, cover_led}
use Rattle.graphs.proofs.cover.uncovered.Goals as goal

pub members-i-items-requires : goal.members-i-items-requires
members-i-items-requires c = record {
  row = rw c.erase.auto.words (cover_asks _ _ _ _ c.requires);
  end_in = c.args.graph.of.few;
}

pub loop-i-init : goal.loop-i-init
loop-i-init c = record {
  done =
      rw c.into_iter-i-iterator.ensures.into_iter_gives
      (cover_begins _ _ _ _ c.requires _ c.erase.ensures c.erase.auto.words c.members-i-items.ensures);
  kept = refl;
}

pub reach-requires : goal.reach-requires
reach-requires c =
    let l = c.loop-i.invariant in
    let d = cover_ready l.done c.in-Some.ensures.steps in
    rw (c.from-places.ensures, l.kept) (record { ready = d.0; closed = d.1 })

pub loop-i-preserved : goal.loop-i-preserved
loop-i-preserved c =
    let l = c.loop-i.invariant in
    let r = rw (c.from-places.ensures, l.kept) at c.reach.ensures in
    record {
      done = cover_again l.done c.in-Some.ensures.steps c.reach.auto.words r.reached r.frame;
      kept = ap (λ (m : ℕ × RowsAt). record { of = m.1; barred = m.0 }) r.kept;
    }

pub returns-clause-led : goal.returns-clause-led
returns-clause-led c = cover_led c.loop-i.invariant.done c.in-None.ensures.steps
