-- A graph by slots: slot i of node v holds a node, or is empty. It may read the words of a memory below `limit`.
use Rattle.std.specs.Prelude.{◌≡◌, ℕ, ◌+◌, ◌^◌, ◌<◌, ◌≤◌, List, take, Some, None, Option, MatchOption}
use Rattle.reach.specs.declared.Slot.{Slot}

pub record Shape : Type 0 where
  pub nodes : ℕ
  pub limit : ℕ
  pub slots : List ℕ → ℕ → ℕ
  pub slot : List ℕ → ℕ → ℕ → Option ℕ
  pub inside : (us : List ℕ) (v i w : ℕ) → i < slots us v → slot us v i ≡ Some w → w < nodes

-- an edge, in a graph that reads the words us: v is a node, and some slot of it holds w
pub record EdgeIn (s : Shape) (us : List ℕ) (v w : ℕ) : Type 0 where
  pub node : v < s.nodes
  pub index : ℕ
  pub below : index < s.slots us v
  pub holds : s.slot us v index ≡ Some w

abbrev pub Edge : Shape → List ℕ → ℕ → ℕ → Type 0
Edge s ws = EdgeIn s (take s.limit ws)

-- the first filled slot of v from `from` on; a question for the one behind it can be asked
pub record FirstIn (s : Shape) (us : List ℕ) (v from : ℕ) (found : Slot) : Type 0 where
  pub after : from ≤ found.index
  pub below : found.index < s.slots us v
  pub holds : s.slot us v found.index ≡ Some found.node
  pub empty : (i : ℕ) → from ≤ i → i < found.index → s.slot us v i ≡ None
  pub fits : found.index + 1 < 2 ^ 64

-- that slot, or none where each slot from `from` on is empty
abbrev pub NextIn : Shape → List ℕ → ℕ → ℕ → Option Slot → Type 0
NextIn s us v from r = MatchOption r ((i : ℕ) → from ≤ i → i < s.slots us v → s.slot us v i ≡ None) (FirstIn s us v from)

abbrev pub NextSlot : Shape → List ℕ → ℕ → ℕ → Option Slot → Type 0
NextSlot s ws = NextIn s (take s.limit ws)
