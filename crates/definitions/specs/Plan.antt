-- Verdicts, and decisions over the sequence of atoms decided so far.
use Rattle.std.specs.Prelude.{ℕ, ◌+◌, ◌*◌, min, Bool, true, false, cond, not, ◌&&◌, ◌||◌, List, [], ◌∷◌, Some, None, Option, ◌==◌}
use Rattle.std.specs.List.{range_with_len}
use Rattle.definitions.specs.declared.Verdict.{Verdict}
use Rattle.definitions.specs.declared.Verdict.TheVariants.{Undecided, NothingLost, NothingRemains, Objected, Refused, Cyclic, Accepted, AcceptedWithNamespace}
use Rattle.definitions.specs.declared.ReducedEntriesAction.{ReducedEntriesAction}
use Rattle.definitions.specs.declared.ReducedEntriesAction.TheVariants.{Avoid, Apply, ApplyWithNamespaceExtraction}
use Rattle.tables.specs.Below.{some_below, count_below, those_below, is}
use Rattle.definitions.specs.Graph.{cyclic}
use Rattle.definitions.specs.Classes.{class, classes}
use Rattle.tables.specs.View.{View, entry_count}
use Rattle.definitions.specs.Bits.{has, atom, atoms, members, whole, host}
use Rattle.definitions.specs.Targets.{only, cycle_graph}
use Rattle.definitions.specs.Rules.{trial, lost, rules}

-- a yes or no for each rising list of modules: whether it objects
abbrev pub Veto : Type 0
Veto = List ℕ → Bool

-- the number of each verdict
abbrev pub number : Verdict → ℕ
number Undecided = 0
number NothingLost = 1
number NothingRemains = 2
number Objected = 3
number Refused = 4
number Cyclic = 5
number Accepted = 6
number (AcceptedWithNamespace e m) = 7

abbrev pub accepted : Verdict → Bool
accepted Undecided = false
accepted NothingLost = false
accepted NothingRemains = false
accepted Objected = false
accepted Refused = false
accepted Cyclic = false
accepted Accepted = true
accepted (AcceptedWithNamespace e m) = true

-- the verdicts so far
abbrev pub Verdicts : Type 0
Verdicts = ℕ → Verdict

abbrev pub none_decided : Verdicts
none_decided a = Undecided

-- the bits of the atoms under the verdicts so far: accepted ones have their trial bits, the others are whole
unfoldable pub bits_under : View → Verdicts → ℕ → ℕ → Bool
bits_under t vs a e = cond (accepted (vs a)) (trial t a e) (whole t a e)

-- the same with atom a on trial
unfoldable pub on_trial : View → Verdicts → ℕ → ℕ → ℕ → Bool
on_trial t vs a b e = cond (b == a) (trial t a e) (bits_under t vs b e)

-- Chunks are the classes of atoms with equal bits. A chunk depends on another where an edge of the cycle graph leads from an
-- atom of the one to an atom of the other, and where it is exactly {e} and the other has e's host.
unfoldable pub chunk_count : View → (ℕ → ℕ → Bool) → ℕ
chunk_count t bits = classes (atoms t) (entry_count t) bits

unfoldable pub chunk : View → (ℕ → ℕ → Bool) → ℕ → Option ℕ
chunk t bits a = class (atoms t) (entry_count t) bits a

-- chunk c is exactly {e}
unfoldable pub chunk_only : View → (ℕ → ℕ → Bool) → ℕ → ℕ → Bool
chunk_only t bits c e = some_below (atoms t) (λ a. is (chunk t bits a) c && only (entry_count t) (bits a) e)

-- some edge of the cycle graph leads from chunk c to chunk d
unfoldable pub atom_edge : View → (ℕ → ℕ → Bool) → ℕ → ℕ → Bool
atom_edge t bits c d = some_below (atoms t) (λ a. is (chunk t bits a) c && some_below (atoms t) (λ b. is (chunk t bits b) d && cycle_graph t a b))

-- chunk d has the host, if there is one
unfoldable pub has_host : View → (ℕ → ℕ → Bool) → ℕ → Option ℕ → Bool
has_host t bits d None = false
has_host t bits d (Some h) = is (chunk t bits h) d

-- chunk c is exactly {e}, and chunk d has e's host
unfoldable pub host_edge : View → (ℕ → ℕ → Bool) → ℕ → ℕ → Bool
host_edge t bits c d = some_below (entry_count t) (λ e. chunk_only t bits c e && has_host t bits d (host t e))

unfoldable pub chunk_graph : View → (ℕ → ℕ → Bool) → ℕ → ℕ → Bool
chunk_graph t bits c d = not (c == d) && (atom_edge t bits c d || host_edge t bits c d)

unfoldable pub chunks_cyclic : View → (ℕ → ℕ → Bool) → Bool
chunks_cyclic t bits = cyclic (chunk_count t bits) (chunk_graph t bits)

abbrev pub the_only : List ℕ → Option ℕ
the_only [] = None
the_only (e ∷ []) = Some e
the_only (e ∷ (k ∷ es)) = None

unfoldable pub unless_cyclic : View → Verdicts → ℕ → Verdict → Verdict
unless_cyclic t vs a v = cond (chunks_cyclic t (on_trial t vs a)) Cyclic v

unfoldable pub by_rules : View → Verdicts → ℕ → ReducedEntriesAction → Verdict
by_rules t vs a Avoid = Refused
by_rules t vs a Apply = unless_cyclic t vs a Accepted
by_rules t vs a (ApplyWithNamespaceExtraction e m) = unless_cyclic t vs a (AcceptedWithNamespace e m)

unfoldable pub by_remaining : View → Veto → Verdicts → ℕ → Option ℕ → Verdict
by_remaining t veto vs a None = unless_cyclic t vs a Accepted
by_remaining t veto vs a (Some e) = cond (veto (members t a)) Objected (by_rules t vs a (rules t a e))

-- the verdict on atom a after the verdicts so far
unfoldable pub verdict : View → Veto → Verdicts → ℕ → Verdict
verdict t veto vs a =
    cond (not (some_below (entry_count t) (lost t a))) NothingLost
    (cond (not (some_below (entry_count t) (trial t a))) NothingRemains (by_remaining t veto vs a (the_only (those_below (entry_count t) (trial t a)))))

unfoldable pub put : ℕ → Verdict → Verdicts → Verdicts
put a v vs b = cond (b == a) v (vs b)

-- the verdicts after the atoms of a list are decided, in its order
unfoldable pub decide : View → Veto → Verdicts → List ℕ → Verdicts
decide t veto vs [] = vs
decide t veto vs (a ∷ rest) = decide t veto (put a (verdict t veto vs a) vs) rest

unfoldable pub decided : View → Veto → List ℕ → Verdicts
decided t veto done = decide t veto none_decided done

-- the first k atoms, in number order
unfoldable pub first : View → ℕ → List ℕ
first t k = range_with_len 0 (min k (atoms t))

-- module m has entry e after the decisions
unfoldable pub has_after : View → Verdicts → ℕ → ℕ → Bool
has_after t vs m e = elim (atom t m) [ None ↦ has t m e | Some a ↦ cond (accepted (vs a)) (trial t a e) (has t m e) ]

unfoldable pub share_count : View → Verdicts → ℕ → ℕ
share_count t vs m = count_below (entry_count t) (has_after t vs m)

-- the words that a plan needs for M modules and E entries
abbrev pub need : ℕ → ℕ → ℕ
need m e = 12 * m + 24 * e + 32 * min m 256 + 16
