-- What the record table's records mean.
use Rattle.std.specs.Prelude.{ℕ, cond, map, Some, None, Option}
use Rattle.tables.specs.Value.{Module, Entry, Table, Meaning}
use Rattle.tables.specs.Asked.{export_value, bytes_of, present}
use Rattle.records.specs.declared.EntryRecord.{EntryRecord}
use Rattle.records.specs.declared.ModuleRecord.{ModuleRecord}
use Rattle.records.specs.declared.RecordTable.{RecordTable}
use Rattle.records.specs.declared.RecordPlace.{RecordPlace}
use Rattle.records.specs.declared.RecordList.{RecordList}
use Rattle.records.specs.declared.RecordList.TheVariants as lists
use Rattle.tables.specs.declared.thing.Field.{Field}
use Rattle.tables.specs.declared.thing.Thing.{Thing}
use Rattle.tables.specs.declared.thing.Thing.TheVariants as thing

abbrev pub module_of : ModuleRecord → Module
module_of m = record {
  flags = m.flags;
  namespace = m.namespace;
  wrapper = m.wrapper;
  wrap = m.wrap;
  loads = m.loads.now;
  dependencies = m.dependencies.now;
  resolved = m.resolved.now;
  references = m.references.now;
  exports = map export_value m.exports.now;
  partial = map bytes_of m.partial.now;
}

abbrev pub entry_of : EntryRecord → Entry
entry_of e = record { root = e.root; flags = e.flags; sites = e.sites.now }

abbrev pub table_of : RecordTable → Table
table_of t = record {
  modules = map module_of t.modules.now;
  entries = map entry_of t.entries.now;
  symbols = t.symbols.now;
  runtime = t.header.runtime;
  strict = t.header.strict;
}

abbrev numbered : RecordList → ℕ → RecordPlace
numbered l n = record { list = l; number = n }

-- the list that a thing's record stands in, and its number there
abbrev pub record_place : Thing → RecordPlace
record_place thing.Header = numbered lists.Header 0
record_place (thing.Module m) = numbered lists.Modules m
record_place (thing.Item l m i) = numbered (lists.Items l m) i
record_place (thing.Export m i) = numbered (lists.Exports m) i
record_place (thing.Partial m i) = numbered (lists.Partial m) i
record_place (thing.Entry e) = numbered lists.Entries e
record_place (thing.Site e i) = numbered (lists.Sites e) i
record_place (thing.Symbol s) = numbered lists.Symbols s

abbrev pub place_in : RecordTable → Thing → Field → Option RecordPlace
place_in t th f = cond (present (table_of t) th) (Some (record_place th)) None

abbrev pub meaning_of : RecordTable → Meaning RecordPlace
meaning_of t = record { table = table_of t; place = place_in t }
