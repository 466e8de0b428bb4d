use Rattle.std.proofs.Common.{◌≡◌, ◌∷◌, take, vec_items}
use Rattle.std.specs.List.{flat_map}
use Rattle.written.specs.Written.{field6}
use Rattle.written.proofs.line_text.Given as goal

abbrev pub invariant-loop-f : goal.invariant-loop-f
invariant-loop-f l = vec_items l.out ≡ l.letter ∷ flat_map field6 (take l.f-index l.fields)
