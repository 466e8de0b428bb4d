-- Rows of equal bits. A row i has the bits k with `bits i k`, k below w; rows with equal non-empty bits form a class,
-- and the classes are numbered by their least row. Atoms are the classes of modules, chunks those of atoms.
use Rattle.std.specs.Prelude.{ℕ, Bool, not, ◌&&◌, List, length, Option}
use Rattle.std.specs.Bool.{beq}
use Rattle.tables.specs.Below.{some_below, every_below, those_below, place}

abbrev pub Rows : Type 0
Rows = ℕ → ℕ → Bool

unfoldable pub same_row : ℕ → Rows → ℕ → ℕ → Bool
same_row w bits i j = every_below w (λ k. beq (bits i k) (bits j k))

-- i is the least row of its class
unfoldable pub least : ℕ → Rows → ℕ → Bool
least w bits i = some_below w (bits i) && not (some_below i (λ j. same_row w bits j i))

-- the least row of each class, rising
unfoldable pub leasts : ℕ → ℕ → Rows → List ℕ
leasts n w bits = those_below n (least w bits)

unfoldable pub classes : ℕ → ℕ → Rows → ℕ
classes n w bits = length (leasts n w bits)

-- the class of row i, and none where its bits are empty
unfoldable pub class : ℕ → ℕ → Rows → ℕ → Option ℕ
class n w bits i = place (λ j. same_row w bits j i) (leasts n w bits)
