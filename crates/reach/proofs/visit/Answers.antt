use Rattle.std.proofs.Common.{refl, ◌∙◌}
use Rattle.reach.proofs.Visits.{slots_begin, slots_end, slot_asks, slot_spot, slot_room, slot_done, slot_less}
use Rattle.reach.proofs.visit.Goals as goal

pub loop-slot-init : goal.loop-slot-init
loop-slot-init g c = record { done = slots_begin _ _ _ _ _ c.requires.ready c.requires.few; kept = refl }

pub next-requires : goal.next-requires
next-requires g c = let d = slot_asks c.loop-slot.invariant.done in record { limit = d.0; node = d.1 }

pub find-end-requires : goal.find-end-requires
find-end-requires g c =
    let d = c.loop-slot.invariant.done in
    record { spot = slot_spot d _ c.in-Some.ensures.answer; room = slot_room d _ c.in-Some.ensures.answer }

pub loop-slot-smaller : goal.loop-slot-smaller
loop-slot-smaller g c = slot_less c.loop-slot.invariant.done c.in-Some.slot c.in-Some.ensures.answer

pub loop-slot-preserved : goal.loop-slot-preserved
loop-slot-preserved g c =
    let told = c.in-Some.ensures in
    let found = c.find-end in
    record {
      done = slot_done c.loop-slot.invariant.done _ told.answer (g.met.G.Graph.same_shape _ _ told.kept) found.auto.words found.ensures.found found.ensures.frame;
      kept = told.kept ∙ c.loop-slot.invariant.kept;
    }

pub returns-clause-visited : goal.returns-clause-visited
returns-clause-visited g c = slots_end c.loop-slot.invariant.done c.in_default.ensures.answer
