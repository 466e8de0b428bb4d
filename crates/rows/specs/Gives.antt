-- The iterator over the numbers of a row.
use Rattle.std.specs.Prelude.{◌≡◌, ℕ, ◌+◌, ◌<◌, Bool, Option, MatchOption}
use Rattle.rows.specs.declared.iter.Members.{Members}
use Rattle.rows.specs.Bits.{has, Next}

-- m has still to give the numbers from `from` on, below n, that pass the test f
pub record Gives (f : ℕ → Bool) (from n : ℕ) (m : Members) : Type 0 where
  pub test : (i : ℕ) → i < 256 → has m.row 0 i ≡ f i
  pub begin : m.from ≡ from
  pub end : m.end ≡ n

-- a call from s gave r and left t: the least number that was still to be given, and then those after it are
pub record GivesNext (s : Members) (r : Option ℕ) (t : Members) : Type 0 where
  pub least : Next (has s.row 0) s.from s.end r
  pub rest : MatchOption r (Gives (has s.row 0) s.from s.end t) (λ i. Gives (has s.row 0) (i + 1) s.end t)
