-- `reaches` and `cyclic` say what they should: they compute to true exactly where a path, or a cycle, is.
-- No counting of places: `through g k` is transitive at every inner place below k, which is an induction on k.
--
use Rattle.std.proofs.Common.{◌≡◌, ℕ, zero, suc, ◌<◌, Bool, true, ◌&&◌, eqb, ◌⊎◌, Decides, refl, subst, inl, inr, ⊎_elim, arith}
use Rattle.std.proofs.lemmas.Bool.{or_cases, or_left, or_right, and_parts, and_from, eqb-true, eq-eqb, cases_eq}
use Rattle.tables.specs.Below.{some_below}
use Rattle.definitions.specs.Graph.{Path, stay, via, Cycle, Within, through, reaches, cyclic}
use Rattle.definitions.proofs.Below.{some_below_decides}

pub path_join : {g : ℕ → ℕ → Bool} {a b c : ℕ} → Path g a b → Path g b c → Path g a c
path_join stay q = q
path_join (via h p) q = via h (path_join p q)

module _ (n : ℕ) (g : ℕ → ℕ → Bool) where
  R : ℕ → ℕ → ℕ → Type 0
  R k a b = through g k a b ≡ true

  cases : (k a b : ℕ) → R (suc k) a b → R k a b ⊎ (R k a k × R k k b)
  unfolding R through
  cases k a b h =
      ⊎_elim (λ x. inl x) (λ y. inr (and_parts _ _ y))
      (or_cases (through g k a b) (through g k a k && through g k k b) h)

  keep : (k a b : ℕ) → R k a b → R (suc k) a b
  unfolding R through
  keep k a b h = or_left _ _ h

  join : (k a b : ℕ) → R k a k → R k k b → R (suc k) a b
  unfolding R through
  join k a b h i = or_right _ _ (and_from _ _ h i)

  edge : (k a b : ℕ) → g a b ≡ true → R k a b
  unfolding R through
  edge zero a b h = or_right _ _ h
  edge (suc k) a b h = keep k a b (edge k a b h)

  self : (k a : ℕ) → R k a a
  unfolding R through
  self zero a = or_left _ _ (eq-eqb a a refl)
  self (suc k) a = keep k a a (self k a)

  sound : (k a b : ℕ) → R k a b → Path g a b
  unfolding R through
  sound zero a b h =
      ⊎_elim (λ e. subst (Path g a) (eqb-true a b e) stay) (λ e. via e stay) (or_cases (eqb a b) (g a b) h)
  sound (suc k) a b h =
      ⊎_elim (λ x. sound k a b x) (λ y. path_join (sound k a k y.0) (sound k k b y.1)) (cases k a b h)

  -- to and from the newest inner place nothing new is reached
  to_last : (k a : ℕ) → R (suc k) a k → R k a k
  to_last k a h = ⊎_elim (λ x. x) (λ y. y.0) (cases k a k h)

  from_last : (k b : ℕ) → R (suc k) k b → R k k b
  from_last k b h = ⊎_elim (λ x. x) (λ y. y.1) (cases k k b h)

  -- one inner place more
  Across : ℕ → Type 0
  Across k = (a c b : ℕ) → c < k → R k a c → R k c b → R k a b

  across_more : (k : ℕ) → Across k → Across (suc k)
  unfolding Across
  across_more k ih a c b l h i = ⊎_elim last below (cases_eq c k)
    where
      last : c ≡ k → R (suc k) a b
      last e = join k a b (to_last k a (subst (λ x. R (suc k) a x) e h)) (from_last k b (subst (λ x. R (suc k) x b) e i))

      below : (c ≡ k → ⊥) → R (suc k) a b
      below apart =
          let l' : c < k = omega arith in
          ⊎_elim
          (λ x. ⊎_elim (λ y. keep k a b (ih a c b l' x y)) (λ y. join k a b (ih a c k l' x y.0) y.1) (cases k c b i))
          (λ x. ⊎_elim (λ y. join k a b x.0 (ih k c b l' x.1 y)) (λ y. join k a b x.0 y.1) (cases k c b i))
          (cases k a c h)

  across : (k : ℕ) → Across k
  unfolding Across
  across zero a c b l h i = absurd (omega arith)
  across (suc k) a c b l h i = across_more k (across k) a c b l h i

  complete : Within n g → {a b : ℕ} → Path g a b → R n a b
  unfolding Across
  complete w {a = a} stay = self n a
  complete w (via {a = x} {b = y} {c = z} h p) = across n x y z (w x y h) (edge n x y h) (complete w p)

  pub reaches_decides : Within n g → (a b : ℕ) → Decides (reaches n g a b) (Path g a b)
  unfolding R reaches
  reaches_decides w a b =
      (sound n a b, λ p. complete w p)

  pub cyclic_decides : Within n g → ((a b : ℕ) → g a b ≡ true → a < n) → Decides (cyclic n g) (Cycle g)
  unfolding cyclic
  cyclic_decides w v = (to, of)
    where
      inner : (a b : ℕ) → Decides (g a b && reaches n g b a) ((g a b ≡ true) × Path g b a)
      inner a b = (λ h. let q = and_parts _ _ h in (q.0, (reaches_decides w b a).0 q.1), λ q. and_from _ _ q.0 ((reaches_decides w b a).1 q.1))

      row : (a : ℕ) → Decides (some_below n (λ b. g a b && reaches n g b a)) ((b : ℕ) × (b < n) × ((g a b ≡ true) × Path g b a))
      row a = some_below_decides (λ b. g a b && reaches n g b a) (λ b. (g a b ≡ true) × Path g b a) (inner a) n

      all : Decides (some_below n (λ a. some_below n (λ b. g a b && reaches n g b a))) ((a : ℕ) × (a < n) × ((b : ℕ) × (b < n) × ((g a b ≡ true) × Path g b a)))
      all = some_below_decides (λ a. some_below n (λ b. g a b && reaches n g b a)) (λ a. (b : ℕ) × (b < n) × ((g a b ≡ true) × Path g b a)) row n

      to : cyclic n g ≡ true → Cycle g
      to h = let c = all.0 h in (c.0, c.2.0, c.2.2.0, c.2.2.1)

      of : Cycle g → cyclic n g ≡ true
      of c = all.1 (c.0, v c.0 c.1 c.2, (c.1, w c.0 c.1 c.2, (c.2, c.3)))
