-- `has` is true exactly where a path of load dependencies says so; the modules of one atom have the same bits.
use Rattle.std.proofs.Common.{◌≡◌, ℕ, ◌<◌, true, Decides}
use Rattle.std.proofs.lemmas.Bool.{and_parts, and_from, ltb-true, lt-ltb}
use Rattle.definitions.specs.Graph.{Path, stay, via, Within}
use Rattle.tables.specs.View.{View, module_count, entry_count}
use Rattle.tables.specs.Flags.{normal, dynamic, root}
use Rattle.definitions.specs.Bits.{usable, Leads, here, on, Has, load_step, has}
use Rattle.definitions.proofs.Graph.{reaches_decides}

pub normal_below : (t : View) (m : ℕ) → normal t m ≡ true → m < module_count t
unfolding normal
normal_below t m h = ltb-true m (module_count t) (and_parts _ _ h).0

pub dynamic_below : (t : View) (e : ℕ) → dynamic t e ≡ true → e < entry_count t
unfolding dynamic
dynamic_below t e h = ltb-true e (entry_count t) (and_parts _ _ h).0

pub usable_below : (t : View) (m : ℕ) → usable t m ≡ true → m < module_count t
unfolding usable
usable_below t m h = normal_below t m (and_parts _ _ h).0

module _ (t : View) where
  inside : Within (module_count t) (load_step t)
  unfolding load_step
  inside a b h = usable_below t b (and_parts _ _ (and_parts _ _ h).1).0

  leads_of : {a b : ℕ} → usable t a ≡ true → Path (load_step t) a b → Leads t a b
  unfolding load_step
  leads_of u stay = here u
  leads_of u (via h p) = let q = and_parts _ _ (and_parts _ _ h).1 in on u q.1 (leads_of q.0 p)

  path_of : {a b : ℕ} → Leads t a b → (usable t a ≡ true) × Path (load_step t) a b
  unfolding load_step
  path_of (here u) = (u, stay)
  path_of (on u l r) = let q = path_of r in (u, via (and_from _ _ u (and_from _ _ q.0 l)) q.1)

  pub has_decides : (m e : ℕ) → Decides (has t m e) (Has t m e)
  unfolding has
  has_decides m e = (to, of)
    where
      to : has t m e ≡ true → Has t m e
      to h =
          let p = and_parts _ _ h in
          let q = and_parts _ _ p.1 in
          (ltb-true e (entry_count t) p.0, leads_of q.0 ((reaches_decides (module_count t) (load_step t) inside (root t e) m).0 q.1))

      of : Has t m e → has t m e ≡ true
      of h =
          let q = path_of h.1 in
          and_from _ _ (lt-ltb e (entry_count t) h.0) (and_from _ _ q.0 ((reaches_decides (module_count t) (load_step t) inside (root t e) m).1 q.1))

  leads_below : {a b : ℕ} → Leads t a b → b < module_count t
  leads_below (here u) = usable_below t _ u
  leads_below (on u l r) = leads_below r

  pub has_below : (m e : ℕ) → has t m e ≡ true → (m < module_count t) × (e < entry_count t)
  has_below m e h = let p = (has_decides m e).0 h in (leads_below p.1, p.0)
