-- The text of a table.
use Rattle.std.specs.Prelude.{◌≡◌, ℕ, List, ◌∷◌, ◌++◌, length, Ok}
use Rattle.std.specs.List.{flat_map}
use Rattle.tables.specs.Value.{Table, Module, Entry, Export}
use Rattle.tables.specs.declared.parts.Site.{Site}
use Rattle.tables.specs.declared.parts.Symbol.{Symbol}
use Rattle.written.specs.Written.{number6, field6, bit6, line}
use Rattle.textparts.specs.Said.{opened}

abbrev pub number_lines : ℕ → List ℕ → List ℕ
number_lines k = flat_map (λ n. line k (number6 n))

abbrev pub export_text : Export → List ℕ
export_text x = line 88 (number6 x.symbol ++ (bit6 x.from_commonjs ++ 32 ∷ x.name))

abbrev pub partial_text : List ℕ → List ℕ
partial_text n = line 80 (32 ∷ n)

abbrev pub module_text : Module → List ℕ
module_text m =
    line 77 (number6 m.flags ++ (field6 m.namespace ++ (field6 m.wrapper ++ number6 m.wrap)))
    ++ (number_lines 76 m.loads ++ (number_lines 68 m.dependencies ++ (number_lines 82 m.resolved ++ (number_lines 85 m.references
    ++ (flat_map export_text m.exports ++ flat_map partial_text m.partial)))))

abbrev pub site_text : Site → List ℕ
site_text i = line 73 (number6 i.importer ++ (field6 i.target ++ number6 i.flags))

abbrev pub entry_text : Entry → List ℕ
entry_text e = line 69 (number6 e.root ++ number6 e.flags) ++ flat_map site_text e.sites

abbrev pub symbol_text : Symbol → List ℕ
symbol_text s = line 83 (number6 s.owner ++ (number6 s.link ++ (field6 s.alias ++ number6 s.flags)))

abbrev pub written : Table → List ℕ
written t =
    line 84 (number6 (length t.modules) ++ (number6 (length t.entries) ++ (number6 (length t.symbols) ++ (field6 t.runtime ++ bit6 t.strict))))
    ++ (flat_map module_text t.modules ++ (flat_map entry_text t.entries ++ flat_map symbol_text t.symbols))

-- a text that is opened is the text of its table: no other text says that table
abbrev pub OnlyText : Type 0
OnlyText = (text : List ℕ) (t : Table) → opened text ≡ Ok t → written t ≡ text
