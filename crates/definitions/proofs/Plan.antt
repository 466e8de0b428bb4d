-- The decisions come to what specs/Laws says.
use Rattle.std.proofs.Common.{◌≡◌, ℕ, zero, suc, ◌<◌, ◌≤◌, Bool, true, false, cond, not, ◌&&◌, ◌||◌, eqb, ◌⊎◌, ◌↔◌, List, [], ◌∷◌, ◌++◌, get_or, Some, None, Decides, Option, sym, refl, ap, ◌∙◌, subst, inl, inr, ⊎_elim, arith}
use Rattle.std.specs.List.{ContainsAt as Has, AllByRecursion as All}
use Rattle.std.proofs.lemmas.Bool.{and_parts, or_cases, or_parts, cases_Bool, cases_eq, both_ways, eq-eqb, not-false}
use Rattle.std.proofs.lemmas.Bool.Decides.{Decides-eqb, Decides-or, Decides-not, Decides-and}
use Rattle.definitions.specs.declared.Verdict.{Verdict}
use Rattle.definitions.specs.declared.Verdict.TheVariants.{Undecided, NothingLost, NothingRemains, Objected, Cyclic}
use Rattle.definitions.specs.declared.ReducedEntriesAction.{ReducedEntriesAction}
use Rattle.definitions.specs.declared.ReducedEntriesAction.TheVariants.{Avoid, Apply, ApplyWithNamespaceExtraction}
use Rattle.tables.specs.Below.{some_below, those_below, listed, is}
use Rattle.definitions.specs.Graph.{Cycle}
use Rattle.tables.specs.View.{View, entry_count}
use Rattle.definitions.specs.Bits.{has, atom, atoms, members, host}
use Rattle.definitions.specs.Targets.{only}
use Rattle.definitions.specs.Cover.{covered, Covered}
use Rattle.definitions.specs.Rules.{trial, lost, rules}
use Rattle.definitions.specs.Plan.{Veto, Verdicts, accepted, none_decided, on_trial, chunk, chunk_count, chunk_only, atom_edge, has_host, host_edge, chunk_graph, chunks_cyclic, the_only, unless_cyclic, by_rules, by_remaining, verdict, put, decide, decided, has_after}
use Rattle.definitions.specs.Laws.{MayFold}
use Rattle.definitions.proofs.Below.{some_below_one, some_below_decides, every_below_decides}
use Rattle.definitions.proofs.Graph.{cyclic_decides}
use Rattle.definitions.proofs.Classes.{is_some, class_in, those_pass, those_have}
use Rattle.definitions.proofs.Atoms.{whole_has}
use Rattle.definitions.proofs.Cover.{covered_decides}

-- Predicted chunks

module _ (t : View) (bits : ℕ → ℕ → Bool) where
  pub chunk_below : (a c : ℕ) → is (chunk t bits a) c ≡ true → c < chunk_count t bits
  unfolding chunk chunk_count
  chunk_below a c h = (class_in (atoms t) (entry_count t) bits a c (is_some _ _ h)).within

  has_host_below : (o : Option ℕ) (d : ℕ) → has_host t bits d o ≡ true → d < chunk_count t bits
  unfolding has_host
  has_host_below None d h = absurd (both_ways false refl h)
  has_host_below (Some k) d h = chunk_below k d h

  Both : ℕ → ℕ → Type 0
  Both c d = (c < chunk_count t bits) × (d < chunk_count t bits)

  atom_edge_below : (c d : ℕ) → atom_edge t bits c d ≡ true → Both c d
  unfolding Both atom_edge
  atom_edge_below c d h =
      let q = some_below_one (atoms t) _ h in let p = and_parts _ _ q.2 in
      let r = some_below_one (atoms t) _ p.1 in let s = and_parts _ _ r.2 in
      (chunk_below q.0 c p.0, chunk_below r.0 d s.0)

  host_edge_below : (c d : ℕ) → host_edge t bits c d ≡ true → Both c d
  unfolding Both host_edge chunk_only
  host_edge_below c d h =
      let q = some_below_one (entry_count t) _ h in let p = and_parts _ _ q.2 in
      let r = some_below_one (atoms t) _ p.0 in let s = and_parts _ _ r.2 in
      (chunk_below r.0 c s.0, has_host_below (host t q.0) d p.1)

  pub chunk_graph_below : (c d : ℕ) → chunk_graph t bits c d ≡ true → (c < chunk_count t bits) × (d < chunk_count t bits)
  unfolding chunk_graph Both
  chunk_graph_below c d h =
      let p = and_parts _ _ h in let q = or_cases _ _ p.1 in
      ⊎_elim (atom_edge_below c d) (host_edge_below c d) q

  pub chunks_cyclic_decides : Decides (chunks_cyclic t bits) (Cycle (chunk_graph t bits))
  unfolding chunks_cyclic
  chunks_cyclic_decides =
      cyclic_decides (chunk_count t bits) (chunk_graph t bits) (λ a b h. (chunk_graph_below a b h).1) (λ a b h. (chunk_graph_below a b h).0)

-- The one entry that remains

module _ (p : ℕ → Bool) (e : ℕ) (here : p e ≡ true) where
  Alone : ℕ → Type 0
  Alone n = (k : ℕ) → k < n → p k ≡ true → k ≡ e

  alone : (n : ℕ) → Alone n → (e < n → those_below n p ≡ e ∷ []) × (n ≤ e → those_below n p ≡ [])
  unfolding Alone
  alone zero h = (λ l. absurd (omega arith), λ l. refl)
  alone (suc n) h = more (alone n (λ k l. h k (omega arith)))
    where
      more : ((e < n → those_below n p ≡ e ∷ []) × (n ≤ e → those_below n p ≡ [])) → (e < suc n → those_below (suc n) p ≡ e ∷ []) × (suc n ≤ e → those_below (suc n) p ≡ [])
      more ih = (λ l. ⊎_elim last (below l) (cases_eq n e), λ l. join [] false (ih.1 (omega arith)) (off (omega arith)))
        where
          join : (xs : List ℕ) (b : Bool) → those_below n p ≡ xs → p n ≡ b → those_below (suc n) p ≡ xs ++ cond b (n ∷ []) []
          join xs b f g = ap (λ ys. ys ++ cond (p n) (n ∷ []) []) f ∙ ap (λ c. xs ++ cond c (n ∷ []) []) g

          off : (n ≡ e → ⊥) → p n ≡ false
          off apart = ⊎_elim (λ y. absurd (apart (h n (omega arith) y))) (λ y. y) (cases_Bool (p n))

          last : n ≡ e → those_below (suc n) p ≡ e ∷ []
          last f = join [] true (ih.1 (omega arith)) (ap p f ∙ here) ∙ ap (λ x. x ∷ []) f

          below : e < suc n → (n ≡ e → ⊥) → those_below (suc n) p ≡ e ∷ []
          below l apart = join (e ∷ []) false (ih.0 (omega arith)) (off apart)

the_only_some : (xs : List ℕ) (e : ℕ) → the_only xs ≡ Some e → xs ≡ e ∷ []
the_only_some [] e h = let z : ◌≡◌ {A = ℕ} 0 1 = cc in absurd (omega arith)
the_only_some (x ∷ []) e h = let z : x ≡ e = cc in ap (λ y. y ∷ []) z
the_only_some (x ∷ (y ∷ xs)) e h = let z : ◌≡◌ {A = ℕ} 0 1 = cc in absurd (omega arith)

-- the only number below n that passes
module _ (n : ℕ) (p : ℕ → Bool) where
  only_decides : (e : ℕ) → Decides (only n p e) ((p e ≡ true) × ((k : ℕ) → k < n → (k ≡ e) ⊎ (p k ≡ true → ⊥)))
  unfolding only
  only_decides e =
      Decides-and (p e) _ (λ x. x, λ x. x)
      (every_below_decides (λ k. eqb k e || not (p k)) (λ k. (k ≡ e) ⊎ (p k ≡ true → ⊥)) (λ k. Decides-or _ _ (Decides-eqb k e) (Decides-not (p k) (λ x. x, λ x. x))) n)

  pub only_the_only : (e : ℕ) → e < n → only n p e ≡ true → the_only (those_below n p) ≡ Some e
  unfolding Alone
  only_the_only e l h =
      let q = (only_decides e).0 h in
      let a : (k : ℕ) → k < n → p k ≡ true → k ≡ e = λ k b x. ⊎_elim (λ y. y) (λ y. absurd (y x)) (q.1 k b) in
      ap the_only ((alone p e q.0 n a).0 l)

  pub the_only_only : (e : ℕ) → the_only (those_below n p) ≡ Some e → (e < n) × (only n p e ≡ true)
  the_only_only e h =
      let f = the_only_some (those_below n p) e h in
      let all = subst (All (λ x. (x < n) × (p x ≡ true))) f (those_pass p n) in
      (all.0.0, (only_decides e).1 (all.0.1, λ k b. ⊎_elim (λ x. inl (same k (subst (λ xs. Has xs k) f (those_have p n k b x)))) (λ x. inr (λ y. both_ways _ x y)) (cases_Bool (p k))))
    where
      same : (k : ℕ) → Has (e ∷ []) k → k ≡ e
      same k q = let z : q.0 ≡ 0 = omega arith in sym (subst (λ (i : ℕ). get_or (e ∷ []) i 0 ≡ k) z (q.2 0))

-- The verdict

first_two : (l r : Bool) (v : Verdict) → accepted (cond (not l) NothingLost (cond (not r) NothingRemains v)) ≡ true → (l ≡ true) × (r ≡ true) × (accepted v ≡ true)
first_two true true v h = (refl, refl, h)
first_two true false v h = absurd (both_ways false refl h)
first_two false r v h = absurd (both_ways false refl h)

two_first : (l r : Bool) (v : Verdict) → l ≡ true → r ≡ true → accepted v ≡ true → accepted (cond (not l) NothingLost (cond (not r) NothingRemains v)) ≡ true
two_first true true v p q h = h
two_first true false v p q h = absurd (both_ways false refl q)
two_first false r v p q h = absurd (both_ways false refl p)

module _ (t : View) (veto : Veto) (vs : Verdicts) (a : ℕ) where
  cyclic_now : Bool
  cyclic_now = chunks_cyclic t (on_trial t vs a)

  guarded : (b : Bool) (v : Verdict) → accepted (cond b Cyclic v) ≡ true → b ≡ false
  guarded true v h = absurd (both_ways false refl h)
  guarded false v h = refl

  unguarded : (b : Bool) (v : Verdict) → b ≡ false → accepted v ≡ true → accepted (cond b Cyclic v) ≡ true
  unguarded true v e h = absurd (both_ways true e refl)
  unguarded false v e h = h

  Plain : ReducedEntriesAction → Type 0
  Plain r = r ≡ Avoid → ⊥

  by_rules_of : (r : ReducedEntriesAction) → accepted (by_rules t vs a r) ≡ true → Plain r × (cyclic_now ≡ false)
  unfolding by_rules unless_cyclic cyclic_now Plain
  by_rules_of Avoid h = absurd (both_ways false refl h)
  by_rules_of Apply h = (λ e. let z : ◌≡◌ {A = ℕ} 0 1 = cc in omega arith, guarded _ _ h)
  by_rules_of (ApplyWithNamespaceExtraction e m) h = (λ f. let z : ◌≡◌ {A = ℕ} 0 1 = cc in omega arith, guarded _ _ h)

  by_rules_to : (r : ReducedEntriesAction) → Plain r → cyclic_now ≡ false → accepted (by_rules t vs a r) ≡ true
  unfolding by_rules unless_cyclic cyclic_now Plain
  by_rules_to Avoid p h = absurd (p refl)
  by_rules_to Apply p h = unguarded _ _ h refl
  by_rules_to (ApplyWithNamespaceExtraction e m) p h = unguarded _ _ h refl

  Allowed : Option ℕ → Type 0
  Allowed o = (e : ℕ) → o ≡ Some e → (veto (members t a) ≡ false) × (rules t a e ≡ Avoid → ⊥)

  by_remaining_of : (o : Option ℕ) → accepted (by_remaining t veto vs a o) ≡ true → Allowed o × (cyclic_now ≡ false)
  unfolding by_remaining unless_cyclic cyclic_now Plain Allowed
  by_remaining_of None h = (λ e f. let z : ◌≡◌ {A = ℕ} 0 1 = cc in absurd (omega arith), guarded _ _ h)
  by_remaining_of (Some k) h = by (veto (members t a)) refl h
    where
      by : (b : Bool) → veto (members t a) ≡ b → accepted (cond b Objected (by_rules t vs a (rules t a k))) ≡ true → Allowed (Some k) × (cyclic_now ≡ false)
      by true e h = absurd (both_ways false refl h)
      by false e h =
          let q = by_rules_of (rules t a k) h in
          (λ i f. let z : k ≡ i = cc in (e, subst (λ (x : ℕ). rules t a x ≡ Avoid → ⊥) z q.0), q.1)

  by_remaining_to : (o : Option ℕ) → Allowed o → cyclic_now ≡ false → accepted (by_remaining t veto vs a o) ≡ true
  unfolding by_remaining unless_cyclic cyclic_now Plain Allowed
  by_remaining_to None p h = unguarded _ _ h refl
  by_remaining_to (Some k) p h =
      let q = p k refl in
      subst (λ (b : Bool). accepted (cond b Objected (by_rules t vs a (rules t a k))) ≡ true) (sym q.0) (by_rules_to (rules t a k) q.1 h)

  one_of : (n : ℕ) (p : ℕ → Bool) → Decides (some_below n p) ((e : ℕ) × (e < n) × (p e ≡ true))
  one_of n p = some_below_decides p (λ e. p e ≡ true) (λ e. (λ x. x, λ x. x)) n

  pub accepted_exactly : (accepted (verdict t veto vs a) ≡ true) ↔ MayFold t veto vs a
  unfolding verdict Allowed cyclic_now
  accepted_exactly = (to, of)
    where
      n : ℕ
      n = entry_count t

      to : accepted (verdict t veto vs a) ≡ true → MayFold t veto vs a
      to h =
          let p = first_two _ _ _ h in
          let q = by_remaining_of _ p.2 in
          record {
            loses = (one_of n (lost t a)).0 p.0;
            keeps = (one_of n (trial t a)).0 p.1;
            allowed = λ e l o. q.0 e (only_the_only n (trial t a) e l o);
            acyclic = λ c. both_ways _ q.1 ((chunks_cyclic_decides t (on_trial t vs a)).1 c);
          }

      of : MayFold t veto vs a → accepted (verdict t veto vs a) ≡ true
      of m =
          two_first _ _ _ ((one_of n (lost t a)).1 m.loses) ((one_of n (trial t a)).1 m.keeps)
          (by_remaining_to _ (λ e o. let q = the_only_only n (trial t a) e o in m.allowed e q.0 q.1)
          (⊎_elim (λ x. absurd (m.acyclic ((chunks_cyclic_decides t (on_trial t vs a)).0 x))) (λ x. x) (cases_Bool cyclic_now)))

-- Decisions over a list of atoms

module _ (t : View) (veto : Veto) where
  decide_append : (vs : Verdicts) (xs ys : List ℕ) → decide t veto vs (xs ++ ys) ≡ decide t veto (decide t veto vs xs) ys
  unfolding decide
  decide_append vs [] ys = refl
  decide_append vs (x ∷ xs) ys = decide_append (put x (verdict t veto vs x) vs) xs ys

  decide_other : (vs : Verdicts) (xs : List ℕ) (a : ℕ) → listed a xs ≡ false → decide t veto vs xs a ≡ vs a
  unfolding decide put
  decide_other vs [] a h = refl
  decide_other vs (x ∷ xs) a h =
      let p = or_parts _ _ h in
      decide_other (put x (verdict t veto vs x) vs) xs a p.1 ∙ ap (λ b. cond b (verdict t veto vs x) (vs a)) p.0

  pub going_on : (xs ys : List ℕ) → decided t veto (xs ++ ys) ≡ decide t veto (decided t veto xs) ys
  unfolding decided
  going_on xs ys = decide_append none_decided xs ys

  pub decided_others : (done : List ℕ) (a : ℕ) → listed a done ≡ false → decided t veto done a ≡ Undecided
  unfolding decided
  decided_others done a h = decide_other none_decided done a h

  pub decided_at : (before after : List ℕ) (a : ℕ) → listed a after ≡ false → decided t veto (before ++ a ∷ after) a ≡ verdict t veto (decided t veto before) a
  unfolding decided decide put
  decided_at before after a h =
      let vs = decide t veto none_decided before in
      ap (λ (f : Verdicts). f a) (decide_append none_decided before (a ∷ after)) ∙ decide_other (put a (verdict t veto vs a) vs) after a h
      ∙ ap (λ b. cond b (verdict t veto vs a) (vs a)) (eq-eqb a a refl)

-- What a module has lost

module _ (t : View) (vs : Verdicts) (m e : ℕ) where
  After : Option ℕ → Bool
  After o = elim o [ None ↦ has t m e | Some a ↦ cond (accepted (vs a)) (trial t a e) (has t m e) ]

  kept_or_lost : (a : ℕ) → atom t m ≡ Some a → trial t a e ≡ (has t m e && not (covered t a e))
  unfolding trial
  kept_or_lost a h = ap (λ b. b && not (covered t a e)) (whole_has t m a e h)

  pub losing : has t m e ≡ true → (has_after t vs m e ≡ false) ↔ ((a : ℕ) × (atom t m ≡ Some a) × (accepted (vs a) ≡ true) × Covered t a e)
  unfolding has_after After
  losing had = (to (atom t m) refl, of)
    where
      to : (o : Option ℕ) → atom t m ≡ o → After o ≡ false → (a : ℕ) × (atom t m ≡ Some a) × (accepted (vs a) ≡ true) × Covered t a e
      to None f h = absurd (both_ways _ h had)
      to (Some a) f h = by (accepted (vs a)) refl h
        where
          by : (b : Bool) → accepted (vs a) ≡ b → cond b (trial t a e) (has t m e) ≡ false → (a : ℕ) × (atom t m ≡ Some a) × (accepted (vs a) ≡ true) × Covered t a e
          by true g h = (a, f, g, (covered_decides t a e).0 (not-false _ (sym (ap (λ b. b && not (covered t a e)) had) ∙ sym (kept_or_lost a f) ∙ h)))
          by false g h = absurd (both_ways _ h had)

      of : ((a : ℕ) × (atom t m ≡ Some a) × (accepted (vs a) ≡ true) × Covered t a e) → After (atom t m) ≡ false
      of q =
          ap After q.1 ∙ ap (λ b. cond b (trial t q.0 e) (has t m e)) q.2
          ∙ kept_or_lost q.0 q.1 ∙ ap (λ b. b && not (covered t q.0 e)) had ∙ ap not ((covered_decides t q.0 e).1 q.3)

  pub gaining : has t m e ≡ false → has_after t vs m e ≡ false
  unfolding has_after After
  gaining lacked = by (atom t m) refl
    where
      by : (o : Option ℕ) → atom t m ≡ o → After o ≡ false
      by None f = lacked
      by (Some a) f = either (accepted (vs a))
        where
          either : (b : Bool) → cond b (trial t a e) (has t m e) ≡ false
          either true = kept_or_lost a f ∙ ap (λ b. b && not (covered t a e)) lacked
          either false = lacked
