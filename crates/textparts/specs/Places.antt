-- Where the things of a table stand in its text.
use Rattle.std.specs.Prelude.{ℕ, List, [], ◌∷◌, Some, Option, slice_index}
use Rattle.std.specs.List.{slice_get}
use Rattle.std.specs.Option.{option_map}
use Rattle.tables.specs.Asked.{list_of}
use Rattle.tables.specs.declared.thing.Field.{Field}
use Rattle.tables.specs.declared.thing.Field.TheVariants as field
use Rattle.tables.specs.declared.thing.ModuleList.{ModuleList}
use Rattle.tables.specs.declared.thing.ModuleList.TheVariants.{Loads, Dependencies, Resolved, References}
use Rattle.tables.specs.declared.thing.Thing.{Thing}
use Rattle.tables.specs.declared.thing.Thing.TheVariants as thing
use Rattle.texts.specs.declared.place.TextPlace.{TextPlace}
use Rattle.texts.specs.Form.{LineAt, ModuleLines, TextLines, place}

-- the columns of a field in the lines T, M, L D R U, X, P, E, I and S
abbrev row : ℕ → ℕ → ℕ → ℕ → ℕ → ℕ → ℕ → ℕ → List ℕ
row t m l x p e i s = t ∷ m ∷ l ∷ x ∷ p ∷ e ∷ i ∷ s ∷ []

-- the first column of a field in each kind of line, from 1: 1 where the line does not have it
abbrev pub columns_of : Field → List ℕ
columns_of field.Whole = row 1 1 1 1 1 1 1 1
columns_of field.Runtime = row 20 1 1 1 1 1 1 1
columns_of field.Flags = row 1 2 1 1 1 8 14 20
columns_of field.Namespace = row 1 8 1 1 1 1 1 1
columns_of field.Wrapper = row 1 14 1 1 1 1 1 1
columns_of field.Wrap = row 1 20 1 1 1 1 1 1
columns_of field.Number = row 1 1 2 1 1 1 1 1
columns_of field.ExportedSymbol = row 1 1 1 2 1 1 1 1
columns_of field.Name = row 1 1 1 15 3 1 1 1
columns_of field.Root = row 1 1 1 1 1 2 1 1
columns_of field.Importer = row 1 1 1 1 1 1 2 1
columns_of field.Target = row 1 1 1 1 1 1 8 1
columns_of field.Owner = row 1 1 1 1 1 1 1 2
columns_of field.Link = row 1 1 1 1 1 1 1 8
columns_of field.Alias = row 1 1 1 1 1 1 1 14

-- the kind of a thing's line, as `row` counts them
abbrev pub kind_of : Thing → ℕ
kind_of thing.Header = 0
kind_of (thing.Module m) = 1
kind_of (thing.Item l m i) = 2
kind_of (thing.Export m i) = 3
kind_of (thing.Partial m i) = 4
kind_of (thing.Entry e) = 5
kind_of (thing.Site e i) = 6
kind_of (thing.Symbol s) = 7

-- the first column of a field in the line of a thing
abbrev pub line_column : Thing → Field → ℕ
line_column th f = slice_index (columns_of f) (kind_of th)

-- the lines of a list of numbers
abbrev pub lines_in : ModuleList → ModuleLines → List LineAt
lines_in Loads m = m.loads
lines_in Dependencies m = m.dependencies
lines_in Resolved m = m.resolved
lines_in References m = m.references

-- their letter
abbrev pub letter_of : ModuleList → ℕ
letter_of Loads = 76
letter_of Dependencies = 68
letter_of Resolved = 82
letter_of References = 85

-- the line that a thing stands in, none where it is not there
abbrev pub line_in : TextLines → Thing → Option LineAt
line_in t thing.Header = Some t.head
line_in t (thing.Module m) = option_map (λ x. x.head) (slice_get t.modules m)
line_in t (thing.Item l m i) = slice_get (list_of (lines_in l) (slice_get t.modules m)) i
line_in t (thing.Export m i) = slice_get (list_of (λ x. x.exports) (slice_get t.modules m)) i
line_in t (thing.Partial m i) = slice_get (list_of (λ x. x.partial) (slice_get t.modules m)) i
line_in t (thing.Entry e) = option_map (λ x. x.head) (slice_get t.entries e)
line_in t (thing.Site e i) = slice_get (list_of (λ x. x.sites) (slice_get t.entries e)) i
line_in t (thing.Symbol s) = slice_get t.symbols s

-- its number
abbrev pub line_of_thing : TextLines → Thing → Option ℕ
line_of_thing t th = option_map (λ v. v.number) (line_in t th)

-- line and column of a field of a thing
abbrev pub place_in : TextLines → Thing → Field → Option TextPlace
place_in t th f = option_map (λ n. place n (line_column th f)) (line_of_thing t th)
