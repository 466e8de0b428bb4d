use Rattle.std.proofs.Common.{◌≡◌, ℕ, ◌*◌, ◌<◌, ◌≤◌, false}
use Rattle.rows.specs.Bits.{has}
use Rattle.rows.proofs.next.Given as goal

-- no number of the row from `from` on lies in the words before word k
abbrev pub invariant-loop-k : goal.invariant-loop-k
invariant-loop-k l = (j : ℕ) → l.from ≤ j → j < 64 * l.k → has l.words l.at j ≡ false
