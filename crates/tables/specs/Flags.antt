-- The flags of modules, entries and symbols by name, and what a module's wrap says.
use Rattle.std.specs.Prelude.{ℕ, Bool, not, ◌&&◌, ◌==◌, bit_and, nat_eq, nat_lt}
use Rattle.tables.specs.Below.{some_below}
use Rattle.tables.specs.View.{View, module_count, entry_count, module_at, entry_at, symbol_at}

-- flag k, a power of two, is set in the sum
abbrev pub flag : ℕ → ℕ → Bool
flag k sum = not (bit_and sum k == 0)

-- a module's flags
unfoldable pub normal : View → ℕ → Bool
normal t m = nat_lt m (module_count t) && flag 1 (module_at t m).flags

unfoldable pub included : View → ℕ → Bool
included t m = flag 2 (module_at t m).flags

unfoldable pub effectful : View → ℕ → Bool
effectful t m = flag 4 (module_at t m).flags

unfoldable pub inner : View → ℕ → Bool
inner t m = flag 8 (module_at t m).flags

unfoldable pub namespace_included : View → ℕ → Bool
namespace_included t m = flag 16 (module_at t m).flags

unfoldable pub dynamic_exports : View → ℕ → Bool
dynamic_exports t m = flag 32 (module_at t m).flags

unfoldable pub runtime_dependent : View → ℕ → Bool
runtime_dependent t m = flag 64 (module_at t m).flags

unfoldable pub partly_used : View → ℕ → Bool
partly_used t m = flag 128 (module_at t m).flags

-- a module's wrap
unfoldable pub is_cjs : View → ℕ → Bool
is_cjs t m = (module_at t m).wrap == 1

unfoldable pub is_esm : View → ℕ → Bool
is_esm t m = (module_at t m).wrap == 2

-- an entry's module and flags
unfoldable pub root : View → ℕ → ℕ
root t e = (entry_at t e).root

unfoldable pub dynamic : View → ℕ → Bool
dynamic t e = nat_lt e (entry_count t) && flag 1 (entry_at t e).flags

unfoldable pub dynamic_imported : View → ℕ → Bool
dynamic_imported t e = flag 2 (entry_at t e).flags

unfoldable pub async_entry : View → ℕ → Bool
async_entry t e = flag 4 (entry_at t e).flags

unfoldable pub strict_signature : View → ℕ → Bool
strict_signature t e = flag 8 (entry_at t e).flags

-- m is the module of some entry
unfoldable pub is_root : View → ℕ → Bool
is_root t m = some_below (entry_count t) (λ e. nat_eq (root t e) m)

-- a symbol's owner and use
unfoldable pub owner : View → ℕ → ℕ
owner t s = (symbol_at t s).owner

unfoldable pub used : View → ℕ → Bool
used t s = flag 1 (symbol_at t s).flags
