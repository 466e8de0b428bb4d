-- Predicted and service targets, and the two graphs of atoms.
use Rattle.std.specs.Prelude.{ℕ, Bool, false, cond, not, ◌&&◌, ◌||◌, Some, None, Option, ◌==◌}
use Rattle.tables.specs.Below.{some_below, every_below, is}
use Rattle.tables.specs.Value.{Export}
use Rattle.tables.specs.View.{View, module_count, entry_count, module_at}
use Rattle.tables.specs.Flags.{normal, effectful, inner, namespace_included, runtime_dependent, is_cjs, is_esm, root, is_root, owner, used}
use Rattle.tables.specs.Links.{canon, alias, served}
use Rattle.tables.specs.Names.{name_before}
use Rattle.definitions.specs.Bits.{has, atom}

-- some symbol is there, and d owns it
unfoldable pub owns : View → ℕ → Option ℕ → Bool
owns t d None = false
owns t d (Some s) = owner t s == d

-- d owns the end of u's chain, or the alias symbol of that end
unfoldable pub owns_use : View → ℕ → ℕ → Bool
owns_use t d u = owner t (canon t u) == d || owns t d (alias t u)

unfoldable pub predicted : View → ℕ → ℕ → Bool
predicted t m d =
    (module_at t m).loads_on d && (not (effectful t d) || (is t.runtime d && runtime_dependent t m || ((module_at t m).resolves_to d || (module_at t m).some_reference (owns_use t d))))

-- c is the namespace symbol of its normal owner
unfoldable pub is_namespace : View → ℕ → Bool
is_namespace t c = normal t (owner t c) && is (module_at t (owner t c)).namespace c

unfoldable pub live : View → ℕ → Bool
live t c = cond (is_namespace t c) (namespace_included t (owner t c)) (used t c)

unfoldable pub other_than : ℕ → Option ℕ → Option ℕ
other_than c None = None
other_than c (Some w) = cond (w == c) None (Some w)

-- the wrapper symbol that an export of m brings with it
unfoldable pub wrapper_of : View → ℕ → Export → Option ℕ
wrapper_of t m x =
    let c = served t x.symbol in let o = owner t c in
    cond (not x.from_commonjs && (not (o == m) && (is_esm t o && not (inner t o)))) (other_than c (module_at t o).wrapper) None

-- both are there, and have the same end
unfoldable pub same_end : View → Option ℕ → Option ℕ → Bool
same_end t None w = false
same_end t (Some v) None = false
same_end t (Some v) (Some w) = canon t v == canon t w

-- an export of m with the same wrapper, by its end, and a smaller name
unfoldable pub preceded : View → ℕ → Export → Bool
preceded t m x = (module_at t m).some_export (λ y. name_before y.name x.name && same_end t (wrapper_of t m y) (wrapper_of t m x))

unfoldable pub counted_wrapper : View → ℕ → Export → Option ℕ
counted_wrapper t m x = cond (preceded t m x) None (wrapper_of t m x)

unfoldable pub is_used : View → Option ℕ → Bool
is_used t None = false
is_used t (Some w) = used t w

-- d is a target by the export x of m
unfoldable pub served_by : View → Export → ℕ → Bool
served_by t x d = not x.from_commonjs && owner t (served t x.symbol) == d

-- m is the module of an entry and not CJS
unfoldable pub serves : View → ℕ → Bool
serves t m = is_root t m && not (is_cjs t m)

unfoldable pub service : View → ℕ → ℕ → Bool
service t m d = serves t m && (module_at t m).some_export (λ x. served_by t x d || owns t d (counted_wrapper t m x))

unfoldable pub live_service : View → ℕ → ℕ → Bool
live_service t m d =
    serves t m && (module_at t m).some_export (λ x. (served_by t x d && live t (served t x.symbol)) || (owns t d (counted_wrapper t m x) && is_used t (counted_wrapper t m x)))

-- the row is exactly {e}
unfoldable pub only : ℕ → (ℕ → Bool) → ℕ → Bool
only w row e = row e && every_below w (λ k. (k == e) || not (row k))

-- m's atom has the bits of one entry, and that entry's module is m
unfoldable pub own_chunk : View → ℕ → Bool
own_chunk t m = some_below (entry_count t) (λ e. only (entry_count t) (has t m) e && root t e == m)

unfoldable pub cycle_target : View → ℕ → ℕ → Bool
cycle_target t m d = cond t.strict ((module_at t m).depends_on d) (predicted t m d || service t m d)

unfoldable pub reach_target : View → ℕ → ℕ → Bool
reach_target t m d = cond t.strict ((module_at t m).depends_on d) (predicted t m d || (own_chunk t m && live_service t m d))

-- the graph of atoms that a relation of modules gives
unfoldable pub atom_graph : View → (ℕ → ℕ → Bool) → ℕ → ℕ → Bool
atom_graph t target a b =
    not (a == b) && some_below (module_count t) (λ m. is (atom t m) a && some_below (module_count t) (λ d. is (atom t d) b && target m d))

unfoldable pub cycle_graph : View → ℕ → ℕ → Bool
cycle_graph t a b = atom_graph t (cycle_target t) a b

unfoldable pub reach_graph : View → ℕ → ℕ → Bool
reach_graph t a b = atom_graph t (reach_target t) a b
