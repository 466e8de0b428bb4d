-- Trial bits, and the rules for adding an atom to the chunk of one entry.
use Rattle.std.specs.Prelude.{ℕ, Bool, false, cond, not, ◌&&◌, ◌||◌, List, Some, None, codes, ◌==◌}
use Rattle.definitions.specs.declared.ReducedEntriesAction.{ReducedEntriesAction}
use Rattle.definitions.specs.declared.ReducedEntriesAction.TheVariants.{Avoid, Apply, ApplyWithNamespaceExtraction}
use Rattle.tables.specs.Below.{every_below, is}
use Rattle.tables.specs.Value.{Export}
use Rattle.tables.specs.View.{View, module_count, entry_count, module_at}
use Rattle.tables.specs.Flags.{normal, dynamic_exports, partly_used, root, dynamic_imported, async_entry, strict_signature, owner}
use Rattle.tables.specs.Links.{served}
use Rattle.tables.specs.Names.{same_name}
use Rattle.definitions.specs.Bits.{atom, whole}
use Rattle.definitions.specs.Cover.{covered}

-- the bits of atom a without the entries for which it is covered, and those entries
unfoldable pub trial : View → ℕ → ℕ → Bool
trial t a e = whole t a e && not (covered t a e)

unfoldable pub lost : View → ℕ → ℕ → Bool
lost t a e = whole t a e && covered t a e

-- module k exports the name
unfoldable pub exports_name : View → ℕ → List ℕ → Bool
exports_name t k n = (module_at t k).some_export (λ y. same_name y.name n)

-- module k exports x under the same name and the same symbol number
unfoldable pub exports_same : View → ℕ → Export → Bool
exports_same t k x = (module_at t k).some_export (λ y. same_name y.name x.name && y.symbol == x.symbol)

-- every module of atom a other than k has only exports whose served owner is outside the atom, or which k exports too
unfoldable pub keeps_signature : View → ℕ → ℕ → Bool
keeps_signature t a k =
    every_below (module_count t)
    (λ m. not (is (atom t m) a) || (m == k || (module_at t m).each_export (λ x. not (is (atom t (owner t (served t x.symbol))) a) || exports_same t k x)))

-- the runtime is the sole module of atom a
unfoldable pub runtime_only : View → ℕ → Bool
runtime_only t a =
    elim t.runtime [ None ↦ false | Some r ↦ is (atom t r) a && every_below (module_count t) (λ m. not (is (atom t m) a) || m == r) ]

-- the module of each lost entry is in the atom
unfoldable pub loses_own : View → ℕ → Bool
loses_own t a = every_below (entry_count t) (λ e. not (lost t a e) || is (atom t (root t e)) a)

-- the entry's module decides, where the entry is imported dynamically and nothing else
unfoldable pub by_namespace : View → ℕ → ReducedEntriesAction
by_namespace t e =
    let k = root t e in
    cond (partly_used t k && (module_at t k).each_partial (exports_name t k)) Apply
    (cond (normal t k && (not (exports_name t k (codes "then")) && not (dynamic_exports t k))) (ApplyWithNamespaceExtraction e k) Avoid)

unfoldable pub rules : View → ℕ → ℕ → ReducedEntriesAction
rules t a e =
    cond (keeps_signature t a (root t e) || (runtime_only t a || loses_own t a)) Apply
    (cond (dynamic_imported t e) (by_namespace t e) (cond (async_entry t e || strict_signature t e) Avoid Apply))
