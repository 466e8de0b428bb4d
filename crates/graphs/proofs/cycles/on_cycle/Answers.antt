use Rattle.std.proofs.Common.{refl, ◌∙◌}
use Rattle.graphs.proofs.Backs.{back_begins, back_asks, back_spot, back_ends, back_less, back_ready, back_again}
use Rattle.graphs.proofs.cycles.on_cycle.Goals as goal

pub loop-slot-init : goal.loop-slot-init
loop-slot-init g c =
    let e = c.erase_marks.ensures in
    record { spread = back_begins _ _ _ _ _ c.requires c.erase_marks.auto.words e.none e.below e.behind; kept = refl }

pub next-requires : goal.next-requires
next-requires g c = let d = back_asks c.loop-slot.invariant.spread in record { limit = d.0; node = d.1 }

pub reach-requires : goal.reach-requires
reach-requires g c =
    let told = c.in-Some.ensures in
    let d = back_ready c.loop-slot.invariant.spread _ told.answer (g.met.G.Graph.same_shape _ _ told.kept) in
    record { ready = d.0; closed = d.1 }

pub loop-slot-smaller : goal.loop-slot-smaller
loop-slot-smaller g c = back_less c.loop-slot.invariant.spread c.in-Some.slot c.in-Some.ensures.answer

pub loop-slot-preserved : goal.loop-slot-preserved
loop-slot-preserved g c =
    let same = g.met.G.Graph.same_shape in
    let told = c.in-Some.ensures in
    let r = c.reach.ensures in
    record {
      spread = back_again c.loop-slot.invariant.spread _ told.answer (same _ _ told.kept) (same _ _ r.kept) c.reach.auto.words r.reached r.frame;
      kept = r.kept ∙ told.kept ∙ c.loop-slot.invariant.kept;
    }

pub is_marked-requires : goal.is_marked-requires
is_marked-requires g c = back_spot c.loop-slot.invariant.spread

pub returns-clause-answer : goal.returns-clause-answer
returns-clause-answer g c = back_ends c.loop-slot.invariant.spread c.in_default.ensures.answer c.is_marked.result c.is_marked.ensures
