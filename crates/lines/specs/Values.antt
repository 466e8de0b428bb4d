-- What the code's lines stand for.
use Rattle.std.specs.Prelude.{ℕ, cond, [], ◌∷◌, Some, None, Option, ◌==◌}
use Rattle.lines.specs.declared.kinds.TableLine.{TableLine}
use Rattle.lines.specs.declared.kinds.ModuleLine.{ModuleLine}
use Rattle.lines.specs.declared.kinds.ItemLine.{ItemLine}
use Rattle.lines.specs.declared.kinds.ExportLine.{ExportLine}
use Rattle.lines.specs.declared.kinds.PartialLine.{PartialLine}
use Rattle.lines.specs.declared.kinds.EntryLine.{EntryLine}
use Rattle.lines.specs.declared.kinds.SiteLine.{SiteLine}
use Rattle.lines.specs.declared.kinds.SymbolLine.{SymbolLine}
use Rattle.lines.specs.declared.line.Line.{Line}
use Rattle.lines.specs.declared.line.Line.TheVariants as line
use Rattle.lines.specs.Field.{bit_value}
use Rattle.lines.specs.Lines.{LineValue, values}

abbrev pub table_value : TableLine → LineValue
table_value t = values 84 (Some t.modules ∷ Some t.entries ∷ Some t.symbols ∷ t.runtime ∷ Some (bit_value t.strict) ∷ []) []

abbrev pub module_value : ModuleLine → LineValue
module_value m = values 77 (Some m.flags ∷ m.namespace ∷ m.wrapper ∷ Some m.wrap ∷ None ∷ []) []

-- an L, D, R or U line, by its letter k and its number
abbrev pub number_value : ℕ → ℕ → LineValue
number_value k n = values k (Some n ∷ None ∷ None ∷ None ∷ None ∷ []) []

abbrev pub item_value : (k : ℕ) → ItemLine k → LineValue
item_value k i = number_value k i.number

abbrev pub export_value : ExportLine → LineValue
export_value x = values 88 (Some x.symbol ∷ Some (bit_value x.commonjs) ∷ None ∷ None ∷ None ∷ []) x.name.now

abbrev pub partial_value : PartialLine → LineValue
partial_value p = values 80 (None ∷ None ∷ None ∷ None ∷ None ∷ []) p.name.now

abbrev pub entry_value : EntryLine → LineValue
entry_value e = values 69 (Some e.root ∷ Some e.flags ∷ None ∷ None ∷ None ∷ []) []

abbrev pub site_value : SiteLine → LineValue
site_value i = values 73 (Some i.importer ∷ i.resolved ∷ Some i.flags ∷ None ∷ None ∷ []) []

abbrev pub symbol_value : SymbolLine → LineValue
symbol_value s = values 83 (Some s.owner ∷ Some s.link ∷ s.alias ∷ Some s.flags ∷ None ∷ []) []

abbrev pub line_value : Line → LineValue
line_value (line.Table t) = table_value t
line_value (line.Module m) = module_value m
line_value (line.Load i) = item_value 76 i
line_value (line.Dependency i) = item_value 68 i
line_value (line.Resolved i) = item_value 82 i
line_value (line.Reference i) = item_value 85 i
line_value (line.Export x) = export_value x
line_value (line.Partial p) = partial_value p
line_value (line.Entry e) = entry_value e
line_value (line.Site i) = site_value i
line_value (line.Symbol s) = symbol_value s

-- a line, if it has the letter k
abbrev pub of_letter : ℕ → LineValue → Option LineValue
of_letter k v = cond (v.kind == k) (Some v) None
