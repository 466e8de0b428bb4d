-- Graphs on the numbers below n: paths, reachability that computes, cycles.
-- A graph is a test of two numbers: g a b says that an edge leads from a to b.
use Rattle.std.specs.Prelude.{◌≡◌, ℕ, zero, suc, ◌<◌, Bool, true, ◌&&◌, ◌||◌, ◌==◌}
use Rattle.tables.specs.Below.{some_below}

-- a path: none, one or more edges, end to end
pub data Path (g : ℕ → ℕ → Bool) : ℕ → ℕ → Type 0 where
  stay : {a : ℕ} → Path g a a
  via : {a b c : ℕ} → g a b ≡ true → Path g b c → Path g a c

-- a cycle: an edge, and a path back to where it starts
abbrev pub Cycle : (ℕ → ℕ → Bool) → Type 0
Cycle g = (a : ℕ) × (b : ℕ) × (g a b ≡ true) × Path g b a

-- every edge ends below n
abbrev pub Within : ℕ → (ℕ → ℕ → Bool) → Type 0
Within n g = (a b : ℕ) → g a b ≡ true → b < n

-- whether a path leads from a to b whose inner places are all below k (the recursion of Warshall)
unfoldable pub through : (ℕ → ℕ → Bool) → ℕ → ℕ → ℕ → Bool
through g zero a b = a == b || g a b
through g (suc k) a b = through g k a b || (through g k a k && through g k k b)

-- whether a path leads from a to b: `reaches_decides` of proofs/Graph
unfoldable pub reaches : ℕ → (ℕ → ℕ → Bool) → ℕ → ℕ → Bool
reaches n g a b = through g n a b

-- whether there is a cycle: `cyclic_decides` of proofs/Graph
unfoldable pub cyclic : ℕ → (ℕ → ℕ → Bool) → Bool
cyclic n g = some_below n (λ a. some_below n (λ b. g a b && reaches n g b a))
