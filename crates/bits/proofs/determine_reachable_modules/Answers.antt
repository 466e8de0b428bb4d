use Rattle.std.proofs.Common.{◌<◌, length, refl, ap, ◌∙◌, arith}
use Rattle.bits.proofs.Fills.{turn_asks, turn_some, turn_none}
use Rattle.bits.proofs.determine_reachable_modules.Goals as goal
use Rattle.bits.proofs.determine_reachable_modules.Goals.{in-Some, in_default}

pub reach_loads-requires : goal.reach_loads-requires
reach_loads-requires g c =
    let asked = c.usable_root.ensures in
    let count = c.entry_count-e-end.ensures.answer in
    let d = turn_asks c.loop-e.invariant.done (omega arith) asked.answer (ap (λ k. k.table) asked.kept) c.in-Some.is in
    λ _. ((refl, tt), rw c.column.ensures (d.0, d.1))

pub loop-e-preserved : goal.loop-e-preserved
loop-e-preserved g c =
    let l = c.loop-e.invariant in
    let asked = c.usable_root.ensures in
    let count = c.entry_count-e-end.ensures.answer in
    let there : c.loop-e.e < length (g.T.LinkTable.means c.args.table.now).table.entries = omega arith in
    elim c.match-usable_root.branch [
      | in-Some x ↦
          let r = rw x.column.ensures at x.reach_loads.ensures in
          rw (x.words-is, x.table-is) (record {
            done = turn_some l.done there asked.answer (ap (λ k. k.table) asked.kept) x.in-Some.is (ap (λ k. k.table) r.kept) x.reach_loads.auto.words r.reached r.frame;
            kept = r.kept ∙ asked.kept ∙ l.kept;
          })
      | in_default x ↦
          rw (x.words-is, x.table-is) (record {
            done = turn_none l.done there asked.answer (ap (λ k. k.table) asked.kept) x.in_default.not-Some;
            kept = asked.kept ∙ l.kept;
          })
    ]
