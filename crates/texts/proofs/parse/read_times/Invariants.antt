use Rattle.std.proofs.Common.{◌≡◌, ◌-◌, map, vec_items}
use Rattle.texts.specs.Form.{times}
use Rattle.texts.specs.Exact.{here}
use Rattle.texts.proofs.Parts.{pushed}
use Rattle.texts.proofs.parse.read_times.Given as goal

abbrev pub invariant-loop : goal.invariant-loop
invariant-loop g l = pushed (map g.R.Row.value (vec_items l.rows)) (times g.R.Row.step (l.n - l.counter) (here l.r)) ≡ times g.R.Row.step l.n (here l.initial.r)
