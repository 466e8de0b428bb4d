-- A walk over the load graph from a usable module goes where load dependencies lead.
use Rattle.std.proofs.Common.{◌≡◌, ℕ, ◌<◌, Bool, true, List, length, Some, None, Decides, sym, subst}
use Rattle.std.proofs.lemmas.Bool.{cond-true}
use Rattle.std.proofs.lemmas.Option.{cond_some}
use Rattle.tables.specs.Value.{Table}
use Rattle.tables.specs.View.{view, module_at}
use Rattle.tables.specs.Flags.{root}
use Rattle.reach.specs.Paths.{Way, here, step}
use Rattle.reach.specs.Shape.{Edge}
use Rattle.definitions.specs.Bits.{usable, Leads, Has}
use Rattle.definitions.specs.Bits as bits
use Rattle.definitions.proofs.Bits.{usable_below}
use Rattle.loads.specs.Loading.{load_shape, view_modules}
use Rattle.loads.proofs.Edges.{edge_of_loads, loads_of_edge}
use Rattle.bits.specs.Rows.{usable_root}

module _ (t : Table) where
  leads_usable : {a b : ℕ} → Leads (view t) a b → usable (view t) a ≡ true
  leads_usable (bits.here u) = u
  leads_usable (bits.on u l r) = u

  leads_more : {a b c : ℕ} → Leads (view t) a b → (module_at (view t) b).loads_on c ≡ true → usable (view t) c ≡ true → Leads (view t) a c
  leads_more (bits.here u) l v = bits.on u l (bits.here v)
  leads_more (bits.on u k r) l v = bits.on u k (leads_more r l v)

  pub none_has : (m e : ℕ) → ((r : ℕ) → usable_root t e ≡ Some r → ⊥) → Has (view t) m e → ⊥
  none_has m e none h =
      none (root (view t) e) (cond-true (usable (view t) (root (view t) e)) (Some (root (view t) e)) None (leads_usable h.1))

  -- a walk begins at a module that there is
  pub root_inside : (e r : ℕ) → usable_root t e ≡ Some r → r < length t.modules
  root_inside e r is =
      let q = cond_some (usable (view t) (root (view t) e)) (root (view t) e) r is in
      subst (λ n. r < n) (view_modules t) (usable_below (view t) r (subst (λ x. usable (view t) x ≡ true) q.1 q.0))

module _ (t : Table) (ws : List ℕ) where
  pub leads_of_way : {a b : ℕ} → usable (view t) a ≡ true → Way (Edge (load_shape t) ws) a b → Leads (view t) a b
  leads_of_way u here = bits.here u
  leads_of_way u (step p e) = let q = loads_of_edge t ws _ _ e in leads_more t (leads_of_way u p) q.0 q.1

  pub way_then_leads : {a b c : ℕ} → Way (Edge (load_shape t) ws) a b → Leads (view t) b c → Way (Edge (load_shape t) ws) a c
  way_then_leads p (bits.here u) = p
  way_then_leads p (bits.on u l r) = way_then_leads (step p (edge_of_loads t ws _ _ l (leads_usable t r))) r

  -- a walk from the entry's module marks m exactly where m has the entry
  pub marked_has : (m e r : ℕ) (b : Bool) → e < length t.entries → usable_root t e ≡ Some r
      → Decides b (Way (Edge (load_shape t) ws) r m) → Decides b (Has (view t) m e)
  unfolding view
  marked_has m e r b l is d =
      let q = cond_some (usable (view t) (root (view t) e)) (root (view t) e) r is in (
        λ h. (l, leads_of_way q.0 (subst (λ x. Way (Edge (load_shape t) ws) x m) (sym q.1) (d.0 h))),
        λ h. d.1 (subst (λ x. Way (Edge (load_shape t) ws) x m) q.1 (way_then_leads here h.1)),
      )
