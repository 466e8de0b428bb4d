use Rattle.std.proofs.Common.{◌^◌, ◌<◌, ◌≤◌, ap, ◌∙◌, arith}
use Rattle.loads.proofs.Asks.{slot_empty, slot_found, slots_empty}
use Rattle.loads.proofs.LoadsRefMutGraph.next.Goals as goal

pub loop-i-preserved : goal.loop-i-preserved
loop-i-preserved g c =
    let l = c.loop-i in
    let asked = c.usable_load.ensures in
    record {
      empty = slot_empty _ _ (ap (λ k. k.table) l.invariant.kept) c.args.v c.args.from l.i l.invariant.empty c.usable_load.result asked.answer c.in_default.not-Some;
      kept = asked.kept ∙ l.invariant.kept;
      same_table = l.invariant.same_table;
    }

pub returns-in-Some-clause-answer : goal.returns-in-Some-clause-answer
returns-in-Some-clause-answer g c =
    let l = c.loop-i in
    let count = c.count_loads-count.result in
    let fits : count < 2 ^ 64 = omega arith in
    let after : c.args.from ≤ l.i = omega arith in
    slot_found _ _ (ap (λ k. k.table) l.invariant.kept) c.args.v c.args.from l.i l.invariant.empty c.args.words.now c.in-Some.node count
    c.in-Some.ensures.answer after c.loop-i-test.true c.count_loads-count.ensures.answer fits

pub returns-clause-answer : goal.returns-clause-answer
returns-clause-answer g c =
    slots_empty _ c.args.words.now c.args.v c.args.from c.loop-i.i c.count_loads-count.result c.loop-i.invariant.empty c.loop-i-test.false
    c.count_loads-count.ensures.answer
