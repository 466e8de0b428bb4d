use Rattle.std.proofs.Common.{◌≡◌, ◌-◌, replicate, ◌∙◌, arith, rules}
use Rattle.std.proofs.lemmas.List.{places}
use Rattle.std.proofs.lemmas.Slice.{between-put_mid, drop-put_mid}
use Rattle.reach.specs.Memory.{marks_of}
use Rattle.graphs.proofs.Backs.{erased}
use Rattle.graphs.proofs.cycles.erase_marks.Goals as goal

pub returns-clause-none : goal.returns-clause-none
unfolding marks_of
returns-clause-none c =
    let n = c.args.places.queue - c.args.places.marks in
    let zeros : c.fill.new.self ≡ replicate n 0 = search rules in
    erased c.args.places n _ (between-put_mid c.args.places.marks n c.args.words.now c.fill.new.self c.args.places.queue (omega arith) (search (rules, places)) ∙ zeros)

pub returns-clause-behind : goal.returns-clause-behind
returns-clause-behind c =
    let n = c.args.places.queue - c.args.places.marks in
    drop-put_mid c.args.places.marks n c.args.words.now c.fill.new.self c.args.places.queue (omega arith) (omega arith) (search (rules, places))
