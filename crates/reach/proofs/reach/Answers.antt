use Rattle.std.proofs.Common.{refl, ◌∙◌}
use Rattle.reach.proofs.Visits.{start_spot, start_room, walk_begins, walk_stops, walk_asks, walk_again}
use Rattle.reach.proofs.reach.Goals as goal

pub find-tail-requires : goal.find-tail-requires
find-tail-requires g c = record { spot = start_spot _ _ _ _ c.requires.ready; room = λ _. start_room _ _ _ _ c.requires.ready }

pub loop-head-init : goal.loop-head-init
loop-head-init g c =
    let found = c.find-tail in
    record {
      walked = walk_begins _ _ _ _ c.requires.ready _ _ c.requires.closed found.auto.words found.ensures.found found.ensures.frame;
      kept = refl;
    }

pub visit-tail-requires : goal.visit-tail-requires
visit-tail-requires g c = let d = walk_asks c.loop-head.invariant.walked c.loop-head-test.true in record { ready = d.0; few = d.1 }

pub loop-head-preserved : goal.loop-head-preserved
loop-head-preserved g c =
    let v = c.visit-tail in
    record {
      walked = walk_again c.loop-head.invariant.walked c.loop-head-test.true (g.met.G.Graph.same_shape _ _ v.ensures.kept) v.auto.words v.ensures.visited;
      kept = v.ensures.kept ∙ c.loop-head.invariant.kept;
    }

pub returns-clause-reached : goal.returns-clause-reached
returns-clause-reached g c = walk_stops c.loop-head.invariant.walked c.loop-head-test.false
