-- `loads` is true exactly where the reach graph, or in a strict table the bits, say so.
use Rattle.std.proofs.Common.{◌≡◌, ℕ, Bool, true, false, cond, Some, None, Decides, MatchBool, Option, refl, subst}
use Rattle.std.proofs.lemmas.Bool.{and_parts, both_ways}
use Rattle.definitions.specs.Graph.{Path, Within, reaches}
use Rattle.tables.specs.View.{View, module_count}
use Rattle.definitions.specs.Bits.{atom, atoms, whole, host}
use Rattle.definitions.specs.Targets.{atom_graph, reach_graph, reach_target}
use Rattle.definitions.specs.Cover.{loads, Loads}
use Rattle.definitions.proofs.Below.{some_below_one}
use Rattle.definitions.proofs.Classes.{is_some}
use Rattle.definitions.proofs.Atoms.{atom_below}
use Rattle.definitions.proofs.Graph.{reaches_decides}

module _ (t : View) where
  pub atom_graph_within : (target : ℕ → ℕ → Bool) → Within (atoms t) (atom_graph t target)
  unfolding atom_graph
  atom_graph_within target a b h =
      let p = and_parts _ _ h in
      let q = some_below_one (module_count t) _ p.1 in let r = and_parts _ _ q.2 in
      let u = some_below_one (module_count t) _ r.1 in let v = and_parts _ _ u.2 in
      (atom_below t u.0 b (is_some (atom t u.0) b v.0)).1

  from_host : (o : Option ℕ) (a : ℕ) → Decides (elim o [ Some h ↦ reaches (atoms t) (reach_graph t) h a | None ↦ false ]) ((h : ℕ) × (o ≡ Some h) × Path (reach_graph t) h a)
  unfolding reach_graph
  from_host None a = (λ h. absurd (both_ways false refl h), λ q. let z : ◌≡◌ {A = ℕ} 0 1 = let e = q.1 in cc in absurd (omega native.Mathlib.Omega.arith))
  from_host (Some k) a =
      let d = reaches_decides (atoms t) (reach_graph t) (atom_graph_within (reach_target t)) k a in
      (λ h. (k, refl, d.0 h), λ q. let e : q.0 ≡ k = let f = q.1 in cc in d.1 (subst (λ (x : ℕ). Path (reach_graph t) x a) e q.2))

  pub loads_decides : (e a : ℕ) → Decides (loads t e a) (Loads t e a)
  unfolding loads
  loads_decides e a = by t.strict
    where
      by : (s : Bool) → Decides (cond s (whole t a e) (elim (host t e) [ Some h ↦ reaches (atoms t) (reach_graph t) h a | None ↦ false ])) (MatchBool s (whole t a e ≡ true) ((h : ℕ) × (host t e ≡ Some h) × Path (reach_graph t) h a))
      by true = (λ x. x, λ x. x)
      by false = from_host (host t e) a
