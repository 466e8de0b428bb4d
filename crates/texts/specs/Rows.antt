-- What the code's rows stand for.
use Rattle.std.specs.Prelude.{◌≡◌, map, Ok, Err, vec_items, Result}
use Rattle.texts.specs.declared.rows.Numbered.{Numbered}
use Rattle.texts.specs.declared.rows.ModuleRow.{ModuleRow}
use Rattle.texts.specs.declared.rows.EntryRow.{EntryRow}
use Rattle.texts.specs.declared.rows.TextRows.{TextRows}
use Rattle.texts.specs.declared.unreadable.Unreadable.{Unreadable}
use Rattle.texts.specs.declared.unreadable.Unreadable.TheVariants.{Memory, Form}
use Rattle.texts.specs.declared.place.TextPlace.{TextPlace}
use Rattle.texts.specs.Form.{LineAt, ModuleLines, EntryLines, TextLines}
use Rattle.lines.specs.Lines.{LineValue}
use Rattle.lines.specs.Values as line
use Rattle.lines.specs.Values.{item_value}

-- a line with its number, by what the line stands for
abbrev pub numbered_by : {L : Type 0} → (L → LineValue) → Numbered L → LineAt
numbered_by f n = record { number = n.number; value = f n.line }

abbrev pub module_value : ModuleRow → ModuleLines
module_value m = record {
  head = numbered_by line.module_value m.head;
  loads = map (numbered_by (item_value 76)) (vec_items m.loads);
  dependencies = map (numbered_by (item_value 68)) (vec_items m.dependencies);
  resolved = map (numbered_by (item_value 82)) (vec_items m.resolved);
  references = map (numbered_by (item_value 85)) (vec_items m.references);
  exports = map (numbered_by line.export_value) (vec_items m.exports);
  partial = map (numbered_by line.partial_value) (vec_items m.partial);
}

abbrev pub entry_value : EntryRow → EntryLines
entry_value e = record { head = numbered_by line.entry_value e.head; sites = map (numbered_by line.site_value) (vec_items e.sites) }

abbrev pub text_value : TextRows → TextLines
text_value t = record {
  head = numbered_by line.table_value t.head;
  modules = map module_value (vec_items t.modules);
  entries = map entry_value (vec_items t.entries);
  symbols = map (numbered_by line.symbol_value) (vec_items t.symbols);
}

-- the result is exactly what the form says of the text; for want of memory nothing is said
abbrev pub Opens : {A B : Type 0} → (A → B) → Result A Unreadable → Result B TextPlace → Type 0
Opens f (Ok a) s = s ≡ Ok (f a)
Opens f (Err Memory) s = Unit {0}
Opens f (Err (Form p)) s = s ≡ Err p
