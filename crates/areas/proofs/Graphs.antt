-- The graph of atoms that two relations of modules give together.
use Rattle.std.proofs.Common.{◌≡◌, ℕ, zero, suc, Bool, true, false, not, ◌&&◌, ◌||◌, eqb, refl, ap, ◌∙◌}
use Rattle.tables.specs.Below.{some_below, is}
use Rattle.tables.specs.View.{View, module_count}
use Rattle.definitions.specs.Bits.{atom}
use Rattle.definitions.specs.Targets.{atom_graph}

or_swap : (a b c d : Bool) → ((a || b) || (c || d)) ≡ ((a || c) || (b || d))
or_swap true b c d = refl
or_swap false true true d = refl
or_swap false true false d = refl
or_swap false false c d = refl

pub some_or : (n : ℕ) (p q : ℕ → Bool) → some_below n (λ k. p k || q k) ≡ (some_below n p || some_below n q)
some_or zero p q = refl
some_or (suc n) p q = ap (λ b. (p n || q n) || b) (some_or n p q) ∙ or_swap (p n) (q n) (some_below n p) (some_below n q)

pub some_same : (n : ℕ) (p q : ℕ → Bool) → ((k : ℕ) → p k ≡ q k) → some_below n p ≡ some_below n q
some_same zero p q e = refl
some_same (suc n) p q e = ap (λ b. b || some_below n p) (e n) ∙ ap (λ b. q n || b) (some_same n p q e)

and_or : (a b c : Bool) → (a && (b || c)) ≡ ((a && b) || (a && c))
and_or true b c = refl
and_or false b c = refl

pub atom_graph_or : (t : View) (p q : ℕ → ℕ → Bool) (a b : ℕ) → atom_graph t (λ m d. p m d || q m d) a b ≡ (atom_graph t p a b || atom_graph t q a b)
unfolding atom_graph
atom_graph_or t p q a b =
    ap (λ x. not (eqb a b) && x) (some_same n _ (λ m. both p m || both q m) each ∙ some_or n (both p) (both q)) ∙ and_or (not (eqb a b)) (some_below n (both p)) (some_below n (both q))
  where
    n : ℕ
    n = module_count t

    inner : (ℕ → ℕ → Bool) → ℕ → ℕ → Bool
    inner r m d = is (atom t d) b && r m d

    both : (ℕ → ℕ → Bool) → ℕ → Bool
    both r m = is (atom t m) a && some_below n (inner r m)

    each : (m : ℕ) → (is (atom t m) a && some_below n (λ d. is (atom t d) b && (p m d || q m d))) ≡ (both p m || both q m)
    each m =
        ap (λ x. is (atom t m) a && x)
        (some_same n _ (λ d. inner p m d || inner q m d) (λ d. and_or (is (atom t d) b) (p m d) (q m d)) ∙ some_or n (inner p m) (inner q m))
        ∙ and_or (is (atom t m) a) (some_below n (inner p m)) (some_below n (inner q m))

pub atom_graph_same : (t : View) (p q : ℕ → ℕ → Bool) → ((m d : ℕ) → p m d ≡ q m d) → (a b : ℕ) → atom_graph t p a b ≡ atom_graph t q a b
unfolding atom_graph
atom_graph_same t p q e a b =
    ap (λ x. not (eqb a b) && x)
    (some_same (module_count t) _ _ (λ m. ap (λ x. is (atom t m) a && x) (some_same (module_count t) _ _ (λ d. ap (λ x. is (atom t d) b && x) (e m d)))))
