use Rattle.checks.proofs.Counting.{counts_end}
use Rattle.checks.proofs.counts.check_counts.Goals as goal

pub returns-clause-answer : goal.returns-clause-answer
returns-clause-answer g c =
    let means = g.T.LinkTable.means in
    let one = c.in_ok-check_few.ensures.answer in
    let two = c.in_ok-check_few-2.ensures.answer in
    let three = c.in_ok-check_few-3.ensures.answer in
    let four = c.in_ok-check_each.ensures.answer in
    counts_end (means c.args.table.now) (means c.symbol_count-symbols.new.self) (means c.check_few.new.table) (means c.check_few-2.new.table)
    (means c.check_few-3.new.table) (means c.check_each.new.table) _ _ c.symbol_count-symbols.result _ one two three four c.check_each-2.ensures.answer (cc) (cc)
    (cc) (cc) (cc) (cc) (cc) (cc)
