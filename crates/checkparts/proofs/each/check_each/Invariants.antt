use Rattle.std.proofs.Common.{◌≡◌, ◌-◌}
use Rattle.checkparts.specs.Each.{each_below}
use Rattle.checkparts.proofs.each.check_each.Given as goal

-- the table means what it meant, and the checks that are left give what all of them give
abbrev pub invariant-loop-i : goal.invariant-loop-i
invariant-loop-i g l =
    let means = g.T.LinkTable.means in
    let one = g.C.Check.says l.one (means l.fn.table) in
    record { same : means l.table ≡ means l.fn.table; left : each_below one l.i (l.count - l.i) ≡ each_below one 0 l.count }
