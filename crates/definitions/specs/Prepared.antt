-- The verdict on an atom but for the test for cycles: it depends on the table and the veto alone, and not on what was decided.
use Rattle.std.specs.Prelude.{◌≡◌, ℕ, cond, not, Some, None, Option}
use Rattle.definitions.specs.declared.Verdict.{Verdict}
use Rattle.definitions.specs.declared.Verdict.TheVariants.{NothingLost, NothingRemains, Objected, Refused, Accepted, AcceptedWithNamespace}
use Rattle.definitions.specs.declared.ReducedEntriesAction.{ReducedEntriesAction}
use Rattle.definitions.specs.declared.ReducedEntriesAction.TheVariants.{Avoid, Apply, ApplyWithNamespaceExtraction}
use Rattle.tables.specs.Below.{some_below, those_below}
use Rattle.tables.specs.View.{View, entry_count}
use Rattle.definitions.specs.Bits.{members}
use Rattle.definitions.specs.Rules.{trial, lost, rules}
use Rattle.definitions.specs.Plan.{Veto, Verdicts, accepted, the_only, unless_cyclic, verdict}

-- what the rules' word comes to
unfoldable pub by_action : ReducedEntriesAction → Verdict
by_action Avoid = Refused
by_action Apply = Accepted
by_action (ApplyWithNamespaceExtraction e m) = AcceptedWithNamespace e m

-- with two or more entries remaining, veto and rules count as allowing
unfoldable pub by_one : View → Veto → ℕ → Option ℕ → Verdict
by_one t veto a None = Accepted
by_one t veto a (Some e) = cond (veto (members t a)) Objected (by_action (rules t a e))

unfoldable pub prepared : View → Veto → ℕ → Verdict
prepared t veto a =
    cond (not (some_below (entry_count t) (lost t a))) NothingLost
    (cond (not (some_below (entry_count t) (trial t a))) NothingRemains (by_one t veto a (the_only (those_below (entry_count t) (trial t a)))))

-- the verdict that is left where the chunks must have no cycle
unfoldable pub cycle_tested : View → Verdicts → ℕ → Verdict → Verdict
cycle_tested t vs a v = cond (accepted v) (unless_cyclic t vs a v) v

-- the verdict on an atom is what was prepared, and the test for cycles
abbrev pub Prepares : (View → Veto → ℕ → Verdict) → Type 0
Prepares prepare = (t : View) (veto : Veto) (vs : Verdicts) (a : ℕ) → verdict t veto vs a ≡ cycle_tested t vs a (prepare t veto a)
