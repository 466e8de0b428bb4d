use Rattle.std.proofs.Common.{◌≡◌, map, length, vec_items}
use Rattle.texts.specs.Form.{many}
use Rattle.texts.specs.Exact.{here}
use Rattle.texts.specs.Rows.{numbered_by}
use Rattle.texts.proofs.Parts.{pushed}
use Rattle.texts.proofs.reader.Reader.read_many.Given as goal

abbrev pub invariant-loop-lines : goal.invariant-loop-lines
invariant-loop-lines g l =
    pushed (map (numbered_by g.L.LineKind.value) (vec_items l.lines)) (many g.L.LineKind.letter (here l.self)) ≡ many g.L.LineKind.letter (here l.initial.self)

abbrev pub decreases-loop-lines : goal.decreases-loop-lines
decreases-loop-lines g l = length (here l.self).left
