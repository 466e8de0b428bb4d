-- The edges of the load graph: from a module to each usable one that it loads.
use Rattle.std.proofs.Common.{◌≡◌, ℕ, zero, suc, ◌<◌, ◌≤◌, true, false, eqb, List, [], ◌∷◌, length, get_or, Some, None, sym, refl, ap, ◌∙◌, ⊎_elim, arith}
use Rattle.std.specs.List.{slice_get}
use Rattle.std.proofs.lemmas.Option.{slice_get-get_or, slice_get_past}
use Rattle.std.proofs.lemmas.Bool.{cases_lt, or_cases, or_left, or_right, eqb-true, eq-eqb, both_ways, cond-true}
use Rattle.tables.specs.Below.{listed}
use Rattle.tables.specs.Value.{Module, Table}
use Rattle.tables.specs.View.{view, no_module, module_at}
use Rattle.tables.specs.Asked.{list_of, list_in, items_of, item_at}
use Rattle.tables.specs.declared.thing.ModuleList.TheVariants.{Loads}
use Rattle.reach.specs.Shape.{Edge}
use Rattle.definitions.specs.Bits.{usable}
use Rattle.loads.specs.Loading.{usable_of, usable_of_some, load_shape}

-- ---- a list has what stands in one of its places

pub listed_nth : (xs : List ℕ) (i d : ℕ) → slice_get xs i ≡ Some d → listed d xs ≡ true
listed_nth [] i d e = let z : ◌≡◌ {A = ℕ} 0 1 = cc in absurd (omega arith)
listed_nth (x ∷ xs) zero d e = or_left (eqb d x) (listed d xs) (eq-eqb d x (let z : x ≡ d = cc in sym z))
listed_nth (x ∷ xs) (suc i) d e = or_right (eqb d x) (listed d xs) (listed_nth xs i d e)

abbrev Placed : List ℕ → ℕ → Type 0
Placed xs d = (i : ℕ) × (i < length xs) × (slice_get xs i ≡ Some d)

placed_more : (x : ℕ) (xs : List ℕ) (d : ℕ) → Placed xs d → Placed (x ∷ xs) d
placed_more x xs d p = let small = p.1 in (suc p.0, omega arith, p.2)

placed_first : (x : ℕ) (xs : List ℕ) (d : ℕ) → d ≡ x → Placed (x ∷ xs) d
placed_first x xs d e = (0, omega arith, ap Some (sym e))

pub listed_placed : (xs : List ℕ) (d : ℕ) → listed d xs ≡ true → Placed xs d
listed_placed [] d h = absurd (both_ways false refl h)
listed_placed (x ∷ xs) d h =
    ⊎_elim (λ e. placed_first x xs d (eqb-true d x e)) (λ r. placed_more x xs d (listed_placed xs d r)) (or_cases (eqb d x) (listed d xs) h)

-- ---- edges

module _ (t : Table) where
  -- the list of a module that there is; a number that names none loads nothing
  pub loads_listed : (v w : ℕ) → (module_at (view t) v).loads_on w ≡ listed w (items_of t Loads v)
  unfolding view
  loads_listed v w =
      ⊎_elim
      (λ (l : v < length t.modules). ap (λ o. listed w (list_of (list_in Loads) o)) (sym (slice_get-get_or t.modules v no_module l)))
      (λ (l : length t.modules ≤ v). past t.modules v l ∙ ap (λ o. listed w (list_of (list_in Loads) o)) (sym (slice_get_past t.modules v l)))
      (cases_lt v (length t.modules))
    where
      past : (ms : List Module) (v : ℕ) → length ms ≤ v → listed w (get_or ms v no_module).loads ≡ false
      past [] v l = refl
      past (m ∷ ms) zero l = absurd (omega arith)
      past (m ∷ ms) (suc v) l = past ms v (omega arith)

  -- what loads something is a module
  pub loads_from : (v w : ℕ) → (module_at (view t) v).loads_on w ≡ true → v < length t.modules
  loads_from v w h =
      ⊎_elim (λ l. l)
      (λ (l : length t.modules ≤ v).
      absurd (both_ways ((module_at (view t) v).loads_on w) (loads_listed v w ∙ ap (λ o. listed w (list_of (list_in Loads) o)) (slice_get_past t.modules v l)) h))
      (cases_lt v (length t.modules))

  pub edge_of_loads : (ws : List ℕ) (v w : ℕ) → (module_at (view t) v).loads_on w ≡ true → usable (view t) w ≡ true → Edge (load_shape t) ws v w
  unfolding load_shape
  edge_of_loads ws v w l u =
      let p = listed_placed (items_of t Loads v) w (sym (loads_listed v w) ∙ l) in
      record { node = loads_from v w l; index = p.0; below = p.1; holds = ap (usable_of (view t)) p.2 ∙ cond-true (usable (view t) w) (Some w) None u }

  pub loads_of_edge : (ws : List ℕ) (v w : ℕ) → Edge (load_shape t) ws v w → ((module_at (view t) v).loads_on w ≡ true) × (usable (view t) w ≡ true)
  unfolding load_shape
  loads_of_edge ws v w e =
      let q = usable_of_some (view t) (item_at t Loads v e.index) w e.holds in
      (loads_listed v w ∙ listed_nth (items_of t Loads v) e.index w q.0, q.1)
