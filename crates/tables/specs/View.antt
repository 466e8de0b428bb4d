-- What the definitions read of a table: its numbers, and of each list only what is in it, never its order. A number that
-- names nothing has no flags and empty lists.
use Rattle.std.specs.Prelude.{ℕ, Bool, List, [], length, None, Option, slice_index_or}
use Rattle.tables.specs.Below.{some_of, each_of, listed}
use Rattle.tables.specs.Value.{Table, Module, Entry, Export}
use Rattle.tables.specs.declared.parts.Site.{Site}
use Rattle.tables.specs.declared.parts.Symbol.{Symbol}

pub record ModuleView : Type 0 where
  pub flags : ℕ
  pub namespace : Option ℕ
  pub wrapper : Option ℕ
  pub wrap : ℕ
  pub loads_on : ℕ → Bool
  pub depends_on : ℕ → Bool
  pub resolves_to : ℕ → Bool
  pub some_reference : (ℕ → Bool) → Bool
  pub some_export : (Export → Bool) → Bool
  pub each_export : (Export → Bool) → Bool
  pub each_partial : (List ℕ → Bool) → Bool

pub record EntryView : Type 0 where
  pub root : ℕ
  pub flags : ℕ
  pub some_site : (Site → Bool) → Bool

pub record View : Type 0 where
  pub modules : ℕ
  pub entries : ℕ
  pub symbols : ℕ
  pub module_view : ℕ → ModuleView
  pub entry_view : ℕ → EntryView
  pub symbol_view : ℕ → Symbol
  pub runtime : Option ℕ
  pub strict : Bool

abbrev pub no_module : Module
no_module = record {
  flags = 0;
  namespace = None;
  wrapper = None;
  wrap = 0;
  loads = [];
  dependencies = [];
  resolved = [];
  references = [];
  exports = [];
  partial = [];
}

abbrev pub no_entry : Entry
no_entry = record { root = 0; flags = 0; sites = [] }

abbrev pub no_symbol : Symbol
no_symbol = record { owner = 0; link = 0; alias = None; flags = 0 }

abbrev pub view_module : Module → ModuleView
view_module m = record {
  flags = m.flags;
  namespace = m.namespace;
  wrapper = m.wrapper;
  wrap = m.wrap;
  loads_on = λ d. listed d m.loads;
  depends_on = λ d. listed d m.dependencies;
  resolves_to = λ d. listed d m.resolved;
  some_reference = λ p. some_of p m.references;
  some_export = λ p. some_of p m.exports;
  each_export = λ p. each_of p m.exports;
  each_partial = λ p. each_of p m.partial;
}

abbrev pub view_entry : Entry → EntryView
view_entry e = record { root = e.root; flags = e.flags; some_site = λ p. some_of p e.sites }

unfoldable pub view : Table → View
view t = record {
  modules = length t.modules;
  entries = length t.entries;
  symbols = length t.symbols;
  module_view = λ m. view_module (slice_index_or t.modules m no_module);
  entry_view = λ e. view_entry (slice_index_or t.entries e no_entry);
  symbol_view = λ s. slice_index_or t.symbols s no_symbol;
  runtime = t.runtime;
  strict = t.strict;
}

abbrev pub module_count : View → ℕ
module_count t = t.modules

abbrev pub entry_count : View → ℕ
entry_count t = t.entries

abbrev pub symbol_count : View → ℕ
symbol_count t = t.symbols

abbrev pub module_at : View → ℕ → ModuleView
module_at t m = t.module_view m

abbrev pub entry_at : View → ℕ → EntryView
entry_at t e = t.entry_view e

abbrev pub symbol_at : View → ℕ → Symbol
symbol_at t s = t.symbol_view s
