use Rattle.std.proofs.Common.{◌+◌, set, sym, ap, ◌∙◌}
use Rattle.rows.specs.Bits.{with_bit}
use Rattle.reach.proofs.Parts.{found_was, found_new, frame_none, frame_new}
use Rattle.reach.proofs.find.Goals as goal

pub returns-then-is_marked : goal.returns-then-is_marked
returns-then-is_marked c = record {
  found = found_was _ _ _ c.requires.spot _ (sym c.is_marked.ensures ∙ c.if-is_marked.true);
  frame = λ n _ _. frame_none _ n _;
}

pub returns : goal.returns
returns c =
    let ws = c.args.words.now in
    let p = c.args.places in
    let marked = c.set.ensures ∙ ap (with_bit ws p.marks) c.bit.ensures in
    let written = ap (λ vs. set vs (p.queue + c.args.tail) c.args.w) marked in
    let new = sym c.is_marked.ensures ∙ c.if-is_marked.false in
    record {
      found = found_new ws p c.args.w c.requires.spot c.args.tail _ written new;
      frame = λ n small room. frame_new ws p c.args.w c.requires.spot c.args.tail _ written n small (room new);
    }
