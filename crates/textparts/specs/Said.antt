-- The table that the lines of a text say.
use Rattle.std.specs.Prelude.{ℕ, List, map, Ok, Result, ◌==◌}
use Rattle.lines.specs.Field.{bind}
use Rattle.lines.specs.Lines.{number_at, optional_at}
use Rattle.tables.specs.Value.{Table, Module, Entry, Export}
use Rattle.tables.specs.declared.parts.Site.{Site}
use Rattle.tables.specs.declared.parts.Symbol.{Symbol}
use Rattle.texts.specs.declared.place.TextPlace.{TextPlace}
use Rattle.texts.specs.Form.{LineAt, ModuleLines, EntryLines, TextLines, parsed}

-- L, D, R, U: the one number
abbrev pub number_of : LineAt → ℕ
number_of v = number_at v.value 0

-- X: 1 says that it is from CommonJS
abbrev pub export_of : LineAt → Export
export_of v = record { symbol = number_at v.value 0; from_commonjs = (number_at v.value 1 == 1); name = v.value.name }

-- P
abbrev pub name_of : LineAt → List ℕ
name_of v = v.value.name

-- I
abbrev pub site_of : LineAt → Site
site_of v = record { importer = number_at v.value 0; target = optional_at v.value 1; flags = number_at v.value 2 }

-- S
abbrev pub symbol_of : LineAt → Symbol
symbol_of v = record { owner = number_at v.value 0; link = number_at v.value 1; alias = optional_at v.value 2; flags = number_at v.value 3 }

abbrev pub module_of : ModuleLines → Module
module_of m = record {
  flags = number_at m.head.value 0;
  namespace = optional_at m.head.value 1;
  wrapper = optional_at m.head.value 2;
  wrap = number_at m.head.value 3;
  loads = map number_of m.loads;
  dependencies = map number_of m.dependencies;
  resolved = map number_of m.resolved;
  references = map number_of m.references;
  exports = map export_of m.exports;
  partial = map name_of m.partial;
}

abbrev pub entry_of : EntryLines → Entry
entry_of e = record { root = number_at e.head.value 0; flags = number_at e.head.value 1; sites = map site_of e.sites }

-- in the T line, 1 says that the table is strict
abbrev pub table_of : TextLines → Table
table_of t = record {
  modules = map module_of t.modules;
  entries = map entry_of t.entries;
  symbols = map symbol_of t.symbols;
  runtime = optional_at t.head.value 3;
  strict = (number_at t.head.value 4 == 1);
}

-- the table that a text says, or the place of the first wrong or missing line
abbrev pub opened : List ℕ → Result Table TextPlace
opened text = bind (parsed text) (λ t. Ok (table_of t))
