use Rattle.std.proofs.Common.{vec_items, sym}
use Rattle.texts.specs.Exact.{here}
use Rattle.texts.specs.Rows.{numbered_by}
use Rattle.texts.proofs.Parts.{many_more}
use Rattle.texts.proofs.reader.Reader.read_many.Goals as goal

pub loop-lines-preserved : goal.loop-lines-preserved
loop-lines-preserved g c =
    many_more (numbered_by g.L.LineKind.value) g.L.LineKind.letter (here c.loop-lines.self) (here c.read_one.new.self) (vec_items c.loop-lines.lines)
    (vec_items c.push.new.self) c.in_ok-read_one.field-0 _ (sym c.loop-lines-test.ensures) c.loop-lines.invariant c.in_ok-read_one.ensures
    c.in_ok-push.ensures.items
