use Rattle.std.proofs.Common.{◌≡◌, ℕ, ◌+◌, ◌<◌, ◌≤◌, ◌⊎◌, length, get_or}
use Rattle.rows.proofs.combine.Given as goal

-- the first k words of the row are made
abbrev pub invariant-loop-k : goal.invariant-loop-k
invariant-loop-k g l = record {
  long : length l.words ≡ length l.initial.words;
  made : (j : ℕ) → j < l.k → goal.F-post g l.of (get_or l.initial.words (l.to + j) 0) (get_or l.initial.words (l.fn.from + j) 0) (get_or l.words (l.to + j) 0);
  others : (j : ℕ) → (j < l.to) ⊎ (l.to + l.k ≤ j) → get_or l.words j 0 ≡ get_or l.initial.words j 0;
  read : (j : ℕ) → j < 4 → get_or l.word-items j 0 ≡ get_or l.initial.words (l.fn.from + j) 0;
}
