-- `covered` is true exactly where every import chain from an entry that is not dynamic meets an entry that loads the atom.
--
use Rattle.std.proofs.Common.{◌≡◌, ℕ, ◌<◌, true, false, not, ◌&&◌, List, [], ◌∷◌, Decides, refl, ⊎_elim}
use Rattle.std.proofs.lemmas.Bool.{and_parts, and_from, or_parts, or_from, cases_Bool, both_ways, not-true, not-false, not_from_false}
use Rattle.tables.specs.Below.{some_below, some_of}
use Rattle.definitions.specs.Graph.{Path, stay, via, Within, reaches}
use Rattle.tables.specs.View.{View, entry_count}
use Rattle.tables.specs.Flags.{dynamic}
use Rattle.definitions.specs.Cover.{loads, imports, Chain, last, then, Covered, open_step, covered}
use Rattle.definitions.proofs.Below.{some_below_decides}
use Rattle.definitions.proofs.Bits.{dynamic_below}
use Rattle.definitions.proofs.Graph.{reaches_decides}

module _ (t : View) where
  pub imports_below : (i e : ℕ) → imports t i e ≡ true → e < entry_count t
  unfolding imports
  imports_below i e h = dynamic_below t e (and_parts _ _ h).0

  module _ (a : ℕ) where
    inside : Within (entry_count t) (open_step t a)
    unfolding open_step
    inside i j h = imports_below i j (and_parts _ _ h).0

    open_path : {i e : ℕ} {before : List ℕ} → Chain t i before e → some_of (λ k. loads t k a) before ≡ false → Path (open_step t a) i e
    unfolding open_step
    open_path last h = stay
    open_path (then im c) h = let p = or_parts _ _ h in via (and_from _ _ im (not_from_false _ p.0)) (open_path c p.1)

    open_chain : {i e : ℕ} → Path (open_step t a) i e → (before : List ℕ) × Chain t i before e × (some_of (λ k. loads t k a) before ≡ false)
    unfolding open_step
    open_chain stay = ([], last, refl)
    open_chain (via {a = x} h p) =
        let q = and_parts _ _ h in let r = open_chain p in
        (x ∷ r.0, then q.0 r.1, or_from _ _ (not-true _ q.1) r.2)

    -- an entry that is not dynamic reaches e past entries that do not load the atom
    Open : ℕ → Type 0
    Open e = (i : ℕ) × (i < entry_count t) × ((dynamic t i ≡ false) × Path (open_step t a) i e)

    open_decides : (e : ℕ) → Decides (some_below (entry_count t) (λ i. not (dynamic t i) && reaches (entry_count t) (open_step t a) i e)) (Open e)
    unfolding Open
    open_decides e = some_below_decides _ _ one (entry_count t)
      where
        one : (i : ℕ) → Decides (not (dynamic t i) && reaches (entry_count t) (open_step t a) i e) ((dynamic t i ≡ false) × Path (open_step t a) i e)
        one i =
            let r = reaches_decides (entry_count t) (open_step t a) inside i e in
            (λ h. let q = and_parts _ _ h in (not-true _ q.0, r.0 q.1), λ q. and_from _ _ (not_from_false _ q.0) (r.1 q.1))

    pub covered_decides : (e : ℕ) → Decides (covered t a e) (Covered t a e)
    unfolding Open covered
    covered_decides e = (to, of)
      where
        to : covered t a e ≡ true → Covered t a e
        to h i before l n c =
            ⊎_elim (λ x. x) (λ x. absurd (both_ways _ (not-true _ h) ((open_decides e).1 (i, l, (n, open_path c x)))))
            (cases_Bool (some_of (λ k. loads t k a) before))

        of : Covered t a e → covered t a e ≡ true
        of h = ⊎_elim (λ x. x) (λ x. absurd (refuse ((open_decides e).0 (not-false _ x)))) (cases_Bool (covered t a e))
          where
            refuse : Open e → ⊥
            refuse o = let c = open_chain o.2.1 in both_ways _ c.2 (h o.0 c.0 o.1 o.2.0 c.1)
