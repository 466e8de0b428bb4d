-- Chains of links: a chain that ends does so within as many links as there are symbols.
use Rattle.std.proofs.Common.{◌≡◌, ℕ, zero, suc, pred, ◌-◌, ◌<◌, ◌≤◌, false, cond, ltb, ◌⊎◌, ◌↔◌, sym, refl, ap, ◌∙◌, subst, inl, inr, ⊎_elim, arith}
use Rattle.std.proofs.lemmas.Bool.{cases_eq, eqb-true, eq-eqb, not-false, not_from_true, cases_lt, lt-ltb, le-ltb}
use Rattle.tables.specs.View.{View, symbol_count, symbol_at}
use Rattle.tables.specs.Links.{Ends, end, link, LinksWithin, linked, canon, endless, Chains}

-- n numbers that differ, all below m: n is at most m
abbrev pub Apart : ℕ → (ℕ → ℕ) → Type 0
Apart n f = (i j : ℕ) → i < j → j < n → f i ≡ f j → ⊥

-- f, with the numbers above v one lower
lower : ℕ → ℕ → ℕ
lower v x = cond (ltb v x) (pred x) x

lower_cases : (v x : ℕ) → ((v < x) × (lower v x ≡ pred x)) ⊎ ((x ≤ v) × (lower v x ≡ x))
unfolding lower
lower_cases v x =
    ⊎_elim (λ l. inl (l, ap (λ b. cond b (pred x) x) (lt-ltb v x l))) (λ l. inr (l, ap (λ b. cond b (pred x) x) (le-ltb v x l))) (cases_lt v x)

pub few : (n m : ℕ) (f : ℕ → ℕ) → ((i : ℕ) → i < n → f i < m) → Apart n f → n ≤ m
few zero m f below apart = omega arith
few (suc n) zero f below apart = let b = below n (omega arith) in absurd (omega arith)
few (suc n) (suc m) f below apart =
    let r : n ≤ m = few n m (λ i. lower (f n) (f i)) within differ in omega arith
  where
    within : (i : ℕ) → i < n → lower (f n) (f i) < m
    within i l =
        let a = below i (omega arith) in let b = below n (omega arith) in
        let ne : f i ≡ f n → ⊥ = apart i n l (omega arith) in
        ⊎_elim (λ c. omega arith) (λ c. omega arith) (lower_cases (f n) (f i))

    differ : (i j : ℕ) → i < j → j < n → lower (f n) (f i) ≡ lower (f n) (f j) → ⊥
    differ i j l k e =
        let ni : f i ≡ f n → ⊥ = apart i n (omega arith) (omega arith) in
        let nj : f j ≡ f n → ⊥ = apart j n k (omega arith) in
        let d : f i ≡ f j → ⊥ = apart i j l (omega arith) in
        ⊎_elim (λ c. ⊎_elim (λ d'. omega arith) (λ d'. omega arith) (lower_cases (f n) (f j)))
        (λ c. ⊎_elim (λ d'. omega arith) (λ d'. omega arith) (lower_cases (f n) (f j))) (lower_cases (f n) (f i))

module _ (t : View) where
  -- the same chain, with its length and no link from a symbol to itself but at the end
  data Steps : ℕ → ℕ → ℕ → Type 0 where
    done : {s : ℕ} → (symbol_at t s).link ≡ s → Steps zero s s
    more : {n s c : ℕ} → ((symbol_at t s).link ≡ s → ⊥) → Steps n (symbol_at t s).link c → Steps (suc n) s c

  steps : {s c : ℕ} → Ends t s c → (n : ℕ) × Steps n s c
  steps (end e) = (zero, done e)
  steps (link {s = s} {c = c} r) =
      let q = steps r in
      ⊎_elim (λ e. (q.0, subst (λ (x : ℕ). Steps q.0 x c) e q.1)) (λ ne. (suc q.0, more ne q.1)) (cases_eq (symbol_at t s).link s)

  -- how long it is depends on where it starts
  same_length : {n m s c d : ℕ} → Steps n s c → Steps m s d → n ≡ m
  same_length (done e) (done f) = refl
  same_length (done e) (more ne q) = absurd (ne e)
  same_length (more ne p) (done f) = absurd (ne f)
  same_length (more ne p) (more mf q) = ap suc (same_length p q)

  -- what is left after i links
  rest : (i : ℕ) {n s c : ℕ} → i ≤ n → Steps n s c → Steps (n - i) (linked t i s) c
  unfolding linked
  rest zero {n} {s} {c} l p = subst (λ (k : ℕ). Steps k s c) (omega arith) p
  rest (suc i) l (done e) = absurd (omega arith)
  rest (suc i) {c = c} l (more {n = n} {s = s} ne p) = subst (λ (k : ℕ). Steps k (linked t i (symbol_at t s).link) c) (omega arith) (rest i (omega arith) p)

  -- past the end nothing changes
  stays : (i s : ℕ) → (symbol_at t s).link ≡ s → linked t i s ≡ s
  unfolding linked
  stays zero s e = refl
  stays (suc i) s e = ap (linked t i) e ∙ stays i s e

  reach : (k : ℕ) {n s c : ℕ} → n ≤ k → Steps n s c → linked t k s ≡ c
  unfolding linked
  reach k {s = s} l (done e) = stays k s e
  reach zero l (more ne p) = absurd (omega arith)
  reach (suc k) l (more ne p) = reach k (omega arith) p

  ends_of : (k s c : ℕ) → Ends t (linked t k s) c → Ends t s c
  unfolding linked
  ends_of zero s c r = r
  ends_of (suc k) s c r = link (ends_of k (symbol_at t s).link c r)

  module _ (inside : LinksWithin t) where
    below : (i s : ℕ) → s < symbol_count t → linked t i s < symbol_count t
    unfolding linked
    below zero s l = l
    below (suc i) s l = below i (symbol_at t s).link (inside s l)

    short : {n s c : ℕ} → s < symbol_count t → Steps n s c → n < symbol_count t
    short {n} {s} {c} l p = few (suc n) (symbol_count t) (λ i. linked t i s) (λ i b. below i s l) apart
      where
        apart : (i j : ℕ) → i < j → j < suc n → linked t i s ≡ linked t j s → ⊥
        apart i j b d e =
            let p' = subst (λ (x : ℕ). Steps (n - i) x c) e (rest i (omega arith) p) in
            let q = rest j (omega arith) p in
            let z : n - i ≡ n - j = same_length p' q in
            omega arith

    pub canon_last : (s c : ℕ) → s < symbol_count t → Ends t s c → canon t s ≡ c
    unfolding canon
    canon_last s c l r = let q = steps r in let b = short l q.1 in reach (symbol_count t) (omega arith) q.1

    stops : {s c : ℕ} → Ends t s c → (symbol_at t c).link ≡ c
    stops (end e) = e
    stops (link r) = stops r

    pub ending : (s : ℕ) → s < symbol_count t → (endless t s ≡ false) ↔ ((c : ℕ) × Ends t s c)
    unfolding endless canon
    ending s l = (to, of)
      where
        to : endless t s ≡ false → (c : ℕ) × Ends t s c
        to h = (canon t s, ends_of (symbol_count t) s (canon t s) (end (eqb-true _ _ (not-false _ h))))

        of : ((c : ℕ) × Ends t s c) → endless t s ≡ false
        of q = let e = canon_last s q.0 l q.1 in not_from_true _ (eq-eqb _ _ (ap (λ x. (symbol_at t x).link) e ∙ stops q.1 ∙ sym e))

pub chains : Chains canon endless
chains = record { ending = ending; last = canon_last }
