-- Paths of edges, which grow at their end, and paths of a test, which grow at their front.
use Rattle.std.proofs.Common.{◌≡◌, ℕ, ◌<◌, Bool, true}
use Rattle.definitions.specs.Graph.{Path, stay, via, Within}
use Rattle.definitions.proofs.Graph.{path_join}
use Rattle.reach.specs.Paths.{Way, here, step}

-- an edge before a path
pub way_front : {edge : ℕ → ℕ → Type 0} {a b c : ℕ} → edge a b → Way edge b c → Way edge a c
way_front e here = step here e
way_front e (step p f) = step (way_front e p) f

-- each edge passes the test
pub path_of_way : {edge : ℕ → ℕ → Type 0} {g : ℕ → ℕ → Bool} → ((v w : ℕ) → edge v w → g v w ≡ true) → {a b : ℕ} → Way edge a b → Path g a b
path_of_way f here = stay
path_of_way f (step {v} {w} p e) = path_join (path_of_way f p) (via (f v w e) stay)

-- the test leads to numbers below n only, and what passes it from one number below n to another is an edge
pub way_of_path : {edge : ℕ → ℕ → Type 0} {g : ℕ → ℕ → Bool} (n : ℕ) → Within n g → ((v w : ℕ) → v < n → w < n → g v w ≡ true → edge v w)
    → {a b : ℕ} → a < n → Path g a b → Way edge a b
way_of_path n inside f l stay = here
way_of_path n inside f l (via {a = x} {b = y} h p) = way_front (f x y l (inside x y h) h) (way_of_path n inside f (inside x y h) p)
