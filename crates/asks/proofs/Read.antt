-- What a table's answers say of its view.
use Rattle.std.proofs.Common.{◌≡◌, ℕ, zero, suc, ◌<◌, ◌≤◌, List, [], ◌∷◌, length, get_or, Some, None, Option, refl, ap, ◌∙◌, subst, arith}
use Rattle.std.specs.List.{slice_get}
use Rattle.std.specs.Option.{MatchOption, option_map, unwrap_or}
use Rattle.std.proofs.lemmas.Option.{unwrap_or-slice_get}
use Rattle.tables.specs.Value.{Table, Module}
use Rattle.tables.specs.View.{view, module_at, symbol_at, no_module, no_entry, no_symbol}
use Rattle.tables.specs.Asked.{info_of, entry_info_of, table_module, table_entry, table_symbol, list_in, list_of, items_of, exports_of, partials_of, sites_of}
use Rattle.tables.specs.declared.parts.ModuleInfo.{ModuleInfo}
use Rattle.tables.specs.declared.parts.EntryInfo.{EntryInfo}
use Rattle.tables.specs.declared.parts.Symbol.{Symbol}
use Rattle.tables.specs.declared.thing.ModuleList.{ModuleList}
use Rattle.tables.specs.declared.thing.ModuleList.TheVariants.{Loads, Dependencies, Resolved, References}

-- a module's flags, and a symbol
flags_from : (r : ℕ) (xs : List Module) (m : ℕ) → MatchOption (option_map info_of (slice_get xs m)) (r ≡ 0) (λ info. r ≡ info.flags) →
    r ≡ (get_or xs m no_module).flags
flags_from r [] m h = h
flags_from r (x ∷ xs) zero h = h
flags_from r (x ∷ xs) (suc m) h = flags_from r xs m h

pub flags_told : (t : Table) (m r : ℕ) (o : Option ModuleInfo) → o ≡ table_module t m → MatchOption o (r ≡ 0) (λ info. r ≡ info.flags) →
    r ≡ (module_at (view t) m).flags
unfolding view
flags_told t m r o e h = flags_from r t.modules m (subst (λ (q : Option ModuleInfo). MatchOption q (r ≡ 0) (λ info. r ≡ info.flags)) e h)

pub symbol_told : (t : Table) (s : ℕ) (r : Symbol) (o : Option Symbol) → o ≡ table_symbol t s → r ≡ unwrap_or o no_symbol →
    r ≡ symbol_at (view t) s
unfolding view
symbol_told t s r o e h = h ∙ ap (λ q. unwrap_or q no_symbol) e ∙ unwrap_or-slice_get t.symbols s no_symbol

-- modules and entries by their numbers, and the default past the end
module _ {X Y : Type 0} (f : X → Y) (d : X) where
  pub read_some : (xs : List X) (i : ℕ) (y : Y) → Some y ≡ option_map f (slice_get xs i) → (i < length xs) × (y ≡ f (get_or xs i d))
  read_some [] i y e = let z : ◌≡◌ {A = ℕ} 0 1 = cc in absurd (omega arith)
  read_some (x ∷ xs) zero y e = (omega arith, cc)
  read_some (x ∷ xs) (suc i) y e = let r = read_some xs i y e in (omega arith, r.1)

  pub read_none : (xs : List X) (i : ℕ) → None ≡ option_map f (slice_get xs i) → (length xs ≤ i) × (get_or xs i d ≡ d)
  read_none [] i e = (omega arith, refl)
  read_none (x ∷ xs) zero e = let z : ◌≡◌ {A = ℕ} 0 1 = cc in absurd (omega arith)
  read_none (x ∷ xs) (suc i) e = let r = read_none xs i e in (omega arith, r.1)

pub module_some : (t : Table) (m : ℕ) (info : ModuleInfo) → Some info ≡ table_module t m → (m < length t.modules) × (info ≡ info_of (get_or t.modules m no_module))
module_some t m info e = read_some info_of no_module t.modules m info e

pub module_none : (t : Table) (m : ℕ) → None ≡ table_module t m → (length t.modules ≤ m) × (get_or t.modules m no_module ≡ no_module)
module_none t m e = read_none info_of no_module t.modules m e

pub entry_some : (t : Table) (k : ℕ) (info : EntryInfo) → Some info ≡ table_entry t k → (k < length t.entries) × (info ≡ entry_info_of (get_or t.entries k no_entry))
entry_some t k info e = read_some entry_info_of no_entry t.entries k info e

pub entry_none : (t : Table) (k : ℕ) → None ≡ table_entry t k → (length t.entries ≤ k) × (get_or t.entries k no_entry ≡ no_entry)
entry_none t k e = read_none entry_info_of no_entry t.entries k e

-- the lists: of a module or an entry that is not there they are empty
list_of_lem : {A X : Type 0} (list : A → List X) (d : A) → list d ≡ [] → (xs : List A) (i : ℕ) → list_of list (slice_get xs i) ≡ list (get_or xs i d)
list_of_lem list d e [] i = cc
list_of_lem list d e (x ∷ xs) zero = refl
list_of_lem list d e (x ∷ xs) (suc i) = list_of_lem list d e xs i

no_items : (l : ModuleList) → list_in l no_module ≡ []
no_items Loads = refl
no_items Dependencies = refl
no_items Resolved = refl
no_items References = refl

pub items_are : (t : Table) (l : ModuleList) (m : ℕ) → items_of t l m ≡ list_in l (get_or t.modules m no_module)
items_are t l m = list_of_lem (list_in l) no_module (no_items l) t.modules m

pub exports_are : (t : Table) (m : ℕ) → exports_of t m ≡ (get_or t.modules m no_module).exports
exports_are t m = list_of_lem (λ x. x.exports) no_module refl t.modules m

pub partials_are : (t : Table) (m : ℕ) → partials_of t m ≡ (get_or t.modules m no_module).partial
partials_are t m = list_of_lem (λ x. x.partial) no_module refl t.modules m

pub sites_are : (t : Table) (k : ℕ) → sites_of t k ≡ (get_or t.entries k no_entry).sites
sites_are t k = list_of_lem (λ x. x.sites) no_entry refl t.entries k
