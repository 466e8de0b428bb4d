-- The delivery list of a closed plan.
use Rattle.std.specs.Prelude.{ℕ, Bool, false, cond, List, [], ◌∷◌, ◌++◌, length, Some, None, Option, ◌==◌}
use Rattle.definitions.specs.declared.Verdict.{Verdict}
use Rattle.definitions.specs.declared.Verdict.TheVariants.{Undecided, NothingLost, NothingRemains, Objected, Refused, Cyclic, Accepted, AcceptedWithNamespace}
use Rattle.tables.specs.Below.{some_below, count_below}
use Rattle.tables.specs.View.{View, module_count, entry_count}
use Rattle.tables.specs.Flags.{root}
use Rattle.definitions.specs.Bits.{atom, atoms}
use Rattle.definitions.specs.Plan.{Veto, Verdicts, number, accepted, decided, bits_under, chunk, chunk_count, chunk_only}

pub data Line : Type 0 where
  P : (atoms decided accepted chunks : ℕ) → Line
  A : (atom verdict shares : ℕ) → Line
  M : (module_number atom chunk : ℕ) → Line
  B : (chunk entry : ℕ) → Line
  N : (entry module_number : ℕ) → Line

-- the list over the numbers below n, in their order
abbrev pub lines_below : ℕ → (ℕ → List Line) → List Line
lines_below Prim.Native.Nat.zero f = []
lines_below (Prim.Native.Nat.suc n) f = lines_below n f ++ f n

unfoldable pub line_of : ℕ → Option ℕ → (ℕ → Option ℕ) → List Line
line_of m None ch = []
line_of m (Some a) ch = elim (ch a) [ None ↦ [] | Some c ↦ M m a c ∷ [] ]

-- the verdict keeps the namespace of entry e
abbrev pub pairs_with : ℕ → Verdict → Bool
pairs_with e Undecided = false
pairs_with e NothingLost = false
pairs_with e NothingRemains = false
pairs_with e Objected = false
pairs_with e Refused = false
pairs_with e Cyclic = false
pairs_with e Accepted = false
pairs_with e (AcceptedWithNamespace k m) = k == e

unfoldable pub lines_under : View → ℕ → Verdicts → List Line
lines_under t k vs =
    let n = atoms t in let w = entry_count t in let bits = bits_under t vs in
    (P n k (count_below n (λ a. accepted (vs a))) (chunk_count t bits) ∷ [])
    ++ (lines_below n (λ a. A a (number (vs a)) (count_below w (bits a)) ∷ [])
    ++ (lines_below (module_count t) (λ m. line_of m (atom t m) (chunk t bits))
    ++ (lines_below (chunk_count t bits) (λ c. lines_below w (λ e. cond (chunk_only t bits c e) (B c e ∷ []) []))
    ++ lines_below w (λ e. cond (some_below n (λ a. pairs_with e (vs a))) (N e (root t e) ∷ []) []))))

-- the list after the atoms of `done` are decided, in its order
unfoldable pub lines : View → Veto → List ℕ → List Line
lines t veto done = lines_under t (length done) (decided t veto done)
