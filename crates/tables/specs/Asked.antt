-- What each question of a table answers, from the table's value.
use Rattle.std.specs.Prelude.{ℕ, Bool, true, List, [], length, Some, None, Option, nat_lt}
use Rattle.std.specs.Borrow.{Bor}
use Rattle.std.specs.List.{slice_get}
use Rattle.std.specs.Option.{option_map}
use Rattle.tables.specs.Value as value
use Rattle.tables.specs.Value.{Table, Module, Entry}
use Rattle.tables.specs.declared.parts.Export.{Export}
use Rattle.tables.specs.declared.parts.ModuleInfo.{ModuleInfo}
use Rattle.tables.specs.declared.parts.EntryInfo.{EntryInfo}
use Rattle.tables.specs.declared.parts.Site.{Site}
use Rattle.tables.specs.declared.parts.Symbol.{Symbol}
use Rattle.tables.specs.declared.thing.ModuleList.{ModuleList}
use Rattle.tables.specs.declared.thing.ModuleList.TheVariants.{Loads, Dependencies, Resolved, References}
use Rattle.tables.specs.declared.thing.Thing.{Thing}
use Rattle.tables.specs.declared.thing.Thing.TheVariants as thing

-- the bytes behind a reference
abbrev pub bytes_of : Bor (List ℕ) → List ℕ
bytes_of r = r.now

-- an export in the code, with its name behind a reference, by its value
abbrev pub export_value : Export → value.Export
export_value e = record { symbol = e.symbol; from_commonjs = e.commonjs; name = e.name.now }

-- a module and an entry with the lengths of their lists
abbrev pub info_of : Module → ModuleInfo
info_of m = record {
  flags = m.flags;
  namespace = m.namespace;
  wrapper = m.wrapper;
  wrap = m.wrap;
  loads = length m.loads;
  dependencies = length m.dependencies;
  resolved = length m.resolved;
  references = length m.references;
  exports = length m.exports;
  partial = length m.partial;
}

abbrev pub entry_info_of : Entry → EntryInfo
entry_info_of e = record { root = e.root; flags = e.flags; sites = length e.sites }

abbrev pub table_module : Table → ℕ → Option ModuleInfo
table_module t m = option_map info_of (slice_get t.modules m)

abbrev pub table_entry : Table → ℕ → Option EntryInfo
table_entry t e = option_map entry_info_of (slice_get t.entries e)

abbrev pub table_symbol : Table → ℕ → Option Symbol
table_symbol t s = slice_get t.symbols s

-- a list of something that may not be there, and is empty then
abbrev pub list_of : {A X : Type 0} → (A → List X) → Option A → List X
list_of list None = []
list_of list (Some a) = list a

-- a module's list of numbers
abbrev pub list_in : ModuleList → Module → List ℕ
list_in Loads m = m.loads
list_in Dependencies m = m.dependencies
list_in Resolved m = m.resolved
list_in References m = m.references

abbrev pub items_of : Table → ModuleList → ℕ → List ℕ
items_of t l m = list_of (list_in l) (slice_get t.modules m)

abbrev pub exports_of : Table → ℕ → List value.Export
exports_of t m = list_of (λ x. x.exports) (slice_get t.modules m)

abbrev pub partials_of : Table → ℕ → List (List ℕ)
partials_of t m = list_of (λ x. x.partial) (slice_get t.modules m)

abbrev pub sites_of : Table → ℕ → List Site
sites_of t e = list_of (λ x. x.sites) (slice_get t.entries e)

abbrev pub item_at : Table → ModuleList → ℕ → ℕ → Option ℕ
item_at t l m i = slice_get (items_of t l m) i

abbrev pub export_at : Table → ℕ → ℕ → Option value.Export
export_at t m i = slice_get (exports_of t m) i

abbrev pub partial_at : Table → ℕ → ℕ → Option (List ℕ)
partial_at t m i = slice_get (partials_of t m) i

abbrev pub site_at : Table → ℕ → ℕ → Option Site
site_at t e i = slice_get (sites_of t e) i

-- the table has the thing
abbrev pub present : Table → Thing → Bool
present t thing.Header = true
present t (thing.Module m) = nat_lt m (length t.modules)
present t (thing.Item l m i) = nat_lt i (length (items_of t l m))
present t (thing.Export m i) = nat_lt i (length (exports_of t m))
present t (thing.Partial m i) = nat_lt i (length (partials_of t m))
present t (thing.Entry e) = nat_lt e (length t.entries)
present t (thing.Site e i) = nat_lt i (length (sites_of t e))
present t (thing.Symbol s) = nat_lt s (length t.symbols)
