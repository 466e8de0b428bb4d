-- The verdict on an atom is what was prepared, and the test for cycles.
use Rattle.std.proofs.Common.{◌≡◌, ℕ, Bool, true, false, cond, not, Some, None, Option, refl}
use Rattle.definitions.specs.declared.Verdict.TheVariants.{NothingLost, NothingRemains, Objected}
use Rattle.definitions.specs.declared.ReducedEntriesAction.{ReducedEntriesAction}
use Rattle.definitions.specs.declared.ReducedEntriesAction.TheVariants.{Avoid, Apply, ApplyWithNamespaceExtraction}
use Rattle.tables.specs.Below.{some_below, those_below}
use Rattle.tables.specs.View.{View, entry_count}
use Rattle.definitions.specs.Bits.{members}
use Rattle.definitions.specs.Rules.{trial, lost, rules}
use Rattle.definitions.specs.Plan.{Veto, Verdicts, the_only, by_rules, by_remaining, verdict}
use Rattle.definitions.specs.Prepared.{by_action, by_one, prepared, cycle_tested, Prepares}

module _ (t : View) (veto : Veto) (vs : Verdicts) (a : ℕ) where
  action : (r : ReducedEntriesAction) → by_rules t vs a r ≡ cycle_tested t vs a (by_action r)
  unfolding by_rules by_action cycle_tested
  action Avoid = refl
  action Apply = refl
  action (ApplyWithNamespaceExtraction e m) = refl

  objected : (b : Bool) (r : ReducedEntriesAction) → cond b Objected (by_rules t vs a r) ≡ cycle_tested t vs a (cond b Objected (by_action r))
  unfolding cycle_tested
  objected true r = refl
  objected false r = action r

  remaining : (o : Option ℕ) → by_remaining t veto vs a o ≡ cycle_tested t vs a (by_one t veto a o)
  unfolding by_remaining by_one cycle_tested
  remaining None = refl
  remaining (Some e) = objected (veto (members t a)) (rules t a e)

  first : (loses keeps : Bool) (o : Option ℕ)
      → cond (not loses) NothingLost (cond (not keeps) NothingRemains (by_remaining t veto vs a o))
      ≡ cycle_tested t vs a (cond (not loses) NothingLost (cond (not keeps) NothingRemains (by_one t veto a o)))
  unfolding cycle_tested
  first false keeps o = refl
  first true false o = refl
  first true true o = remaining o

pub prepares : Prepares prepared
unfolding verdict prepared
prepares t veto vs a = first t veto vs a (some_below (entry_count t) (lost t a)) (some_below (entry_count t) (trial t a)) (the_only (those_below (entry_count t) (trial t a)))
