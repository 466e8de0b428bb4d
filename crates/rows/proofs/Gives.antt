-- The iterator over the numbers of a row: what a call gives, told of the numbers that it has still to give.
use Rattle.std.proofs.Common.{ℕ, ◌+◌, ◌≤◌, Bool, None, Some, sym, ◌∙◌, arith}
use Rattle.rows.specs.declared.iter.Members.{Members}
use Rattle.rows.specs.Bits.{Next}
use Rattle.rows.specs.Gives.{Gives, GivesNext}

module _ {f : ℕ → Bool} {from n : ℕ} {s t : Members} (few : n ≤ 256) (g : Gives f from n s) where
  pub gives_some : {i : ℕ} → GivesNext s (Some i) t → Next f from n (Some i) × Gives f (i + 1) n t
  gives_some {i = i} step =
      let (after, below, is, before) = rw (g.begin, g.end) at step.least in
      let rest = step.rest in (
        (after, below, sym (g.test i (omega arith)) ∙ is, λ k a b. sym (g.test k (omega arith)) ∙ before k a b),
        record { test = λ k l. rest.test k l ∙ g.test k l; begin = rest.begin; end = rest.end ∙ g.end },
      )

  pub gives_none : GivesNext s None t → Next f from n None
  gives_none step k a b =
      let none = rw (g.begin, g.end) at step.least in
      sym (g.test k (omega arith)) ∙ none k a b
