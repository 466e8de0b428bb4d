-- What begin refuses, in its order: a plan that is begun already (8), counts over their maximum (3), too few words (2), numbers
-- that name nothing (4), links in a circle (5), an export name twice (6), too many atoms (7). The first that applies is given.
-- Within a cause the order is runtime, modules, entries, symbols, each by number, its fields and then its lists.
use Rattle.std.specs.Prelude.{ℕ, suc, Bool, cond, not, List, [], ◌∷◌, length, Some, None, Ok, Err, Option, Result, nat_le, nat_lt, slice_index}
use Rattle.tables.specs.Below.{some_of}
use Rattle.tables.specs.Value.{Table, Module, Entry, Export, Meaning}
use Rattle.tables.specs.View.{View, view}
use Rattle.tables.specs.Links.{endless}
use Rattle.tables.specs.Names.{same_name}
use Rattle.tables.specs.Causes.{bare_fault}
use Rattle.tables.specs.Asked.{list_in}
use Rattle.tables.specs.declared.parts.Site.{Site}
use Rattle.tables.specs.declared.parts.Symbol.{Symbol}
use Rattle.tables.specs.declared.fault.Cause.{Cause}
use Rattle.tables.specs.declared.fault.Cause.TheVariants.{TooFewWords, TooMany, NamesNothing, EndlessLinks, NameTwice, TooManyAtoms, BegunAlready}
use Rattle.tables.specs.declared.fault.Fault.{Fault}
use Rattle.tables.specs.declared.thing.Field.{Field}
use Rattle.tables.specs.declared.thing.Field.TheVariants as field
use Rattle.tables.specs.declared.thing.ModuleList.{ModuleList}
use Rattle.tables.specs.declared.thing.ModuleList.TheVariants.{Loads, Dependencies, Resolved, References}
use Rattle.tables.specs.declared.thing.Thing.{Thing}
use Rattle.tables.specs.declared.thing.Thing.TheVariants as thing
use Rattle.definitions.specs.Bits.{has, atoms}
use Rattle.definitions.specs.Classes.{leasts}
use Rattle.definitions.specs.Plan.{need}

-- a check passes, or gives a fault
abbrev pub Checked : Type 0 → Type 0
Checked P = Result (Unit {0}) (Fault P)

-- one check and then another
abbrev pub then : {P : Type 0} → Checked P → Checked P → Checked P
then (Ok x) r = r
then (Err f) r = Err f

-- each element of a list by its number, from i on
abbrev pub each : {P X : Type 0} → (ℕ → X → Checked P) → ℕ → List X → Checked P
each f i [] = Ok tt
each f i (x ∷ xs) = then (f i x) (each f (suc i) xs)

-- a fault with a thing, its field and its place
abbrev pub fault_at : {P : Type 0} → (Thing → Field → Option P) → Cause → Thing → Field → Fault P
fault_at place c th f = record { cause = c; thing = Some th; field = f; place = place th f }

abbrev pub plain_fault : {P : Type 0} → Cause → Fault P
plain_fault c = bare_fault c

abbrev pub unless : {P : Type 0} → Bool → Fault P → Checked P
unless b f = cond b (Ok tt) (Err f)

-- at most 4096 modules, 256 entries, 16384 symbols, 4096 items a list
module _ {P : Type 0} (place : Thing → Field → Option P) where
  -- a count of at most `most`: the fault names the first thing too many
  abbrev pub few : ℕ → Thing → ℕ → Checked P
  few most first_over n = unless (nat_le n most) (fault_at place (TooMany n) first_over field.Whole)

  abbrev pub few_in_module : ℕ → Module → Checked P
  few_in_module m x =
      then (few 4096 (thing.Item Loads m 4096) (length x.loads))
      (then (few 4096 (thing.Item Dependencies m 4096) (length x.dependencies))
      (then (few 4096 (thing.Item Resolved m 4096) (length x.resolved))
      (then (few 4096 (thing.Item References m 4096) (length x.references))
      (then (few 4096 (thing.Export m 4096) (length x.exports))
      (few 4096 (thing.Partial m 4096) (length x.partial))))))

  abbrev pub few_in_entry : ℕ → Entry → Checked P
  few_in_entry e x = few 4096 (thing.Site e 4096) (length x.sites)

  unfoldable pub counts_checked : Table → Checked P
  counts_checked t =
      then (few 4096 (thing.Module 4096) (length t.modules))
      (then (few 256 (thing.Entry 256) (length t.entries))
      (then (few 16384 (thing.Symbol 16384) (length t.symbols))
      (then (each few_in_module 0 t.modules) (each few_in_entry 0 t.entries))))

  -- a number below n; a number at most n, as a sum of flags is; an absent number names nothing wrong
  abbrev pub below : ℕ → Thing → Field → ℕ → Checked P
  below n th f v = unless (nat_lt v n) (fault_at place NamesNothing th f)

  abbrev pub at_most : ℕ → Thing → Field → ℕ → Checked P
  at_most n th f v = unless (nat_le v n) (fault_at place NamesNothing th f)

  abbrev pub below_if : ℕ → Thing → Field → Option ℕ → Checked P
  below_if n th f None = Ok tt
  below_if n th f (Some v) = below n th f v

  -- the items of a module's list name one of n things
  abbrev pub items_checked : ℕ → ModuleList → ℕ → Module → Checked P
  items_checked n l m x = each (λ i v. below n (thing.Item l m i) field.Number v) 0 (list_in l x)

  abbrev pub export_checked : ℕ → ℕ → ℕ → Export → Checked P
  export_checked symbols m i x = below symbols (thing.Export m i) field.ExportedSymbol x.symbol

  abbrev pub module_checked : ℕ → ℕ → ℕ → Module → Checked P
  module_checked modules symbols m x =
      then (at_most 255 (thing.Module m) field.Flags x.flags)
      (then (at_most 2 (thing.Module m) field.Wrap x.wrap)
      (then (below_if symbols (thing.Module m) field.Namespace x.namespace)
      (then (below_if symbols (thing.Module m) field.Wrapper x.wrapper)
      (then (items_checked modules Loads m x)
      (then (items_checked modules Dependencies m x)
      (then (items_checked modules Resolved m x)
      (then (items_checked symbols References m x)
      (each (export_checked symbols m) 0 x.exports))))))))

  abbrev pub site_checked : ℕ → ℕ → ℕ → Site → Checked P
  site_checked modules e i x =
      then (below modules (thing.Site e i) field.Importer x.importer)
      (then (below_if modules (thing.Site e i) field.Target x.target) (at_most 7 (thing.Site e i) field.Flags x.flags))

  abbrev pub entry_checked : ℕ → ℕ → Entry → Checked P
  entry_checked modules e x =
      then (below modules (thing.Entry e) field.Root x.root)
      (then (at_most 15 (thing.Entry e) field.Flags x.flags) (each (site_checked modules e) 0 x.sites))

  abbrev pub symbol_checked : ℕ → ℕ → ℕ → Symbol → Checked P
  symbol_checked modules symbols s x =
      then (below modules (thing.Symbol s) field.Owner x.owner)
      (then (below symbols (thing.Symbol s) field.Link x.link)
      (then (below_if symbols (thing.Symbol s) field.Alias x.alias) (at_most 1 (thing.Symbol s) field.Flags x.flags)))

  unfoldable pub numbers_checked : Table → Checked P
  numbers_checked t =
      let modules = length t.modules in let symbols = length t.symbols in
      then (below_if modules thing.Header field.Runtime t.runtime)
      (then (each (module_checked modules symbols) 0 t.modules)
      (then (each (entry_checked modules) 0 t.entries) (each (symbol_checked modules symbols) 0 t.symbols)))

  -- the lowest symbol whose chain of links is endless
  abbrev pub link_checked : View → ℕ → Symbol → Checked P
  link_checked t s x = unless (not (endless t s)) (fault_at place (EndlessLinks s) (thing.Symbol s) field.Whole)

  unfoldable pub links_checked : Table → Checked P
  links_checked t = each (link_checked (view t)) 0 t.symbols

  -- the first export whose name an earlier one has
  abbrev pub names_among : List Export → ℕ → ℕ → List Export → Checked P
  names_among earlier m i [] = Ok tt
  names_among earlier m i (x ∷ xs) =
      then (unless (not (some_of (λ y. same_name y.name x.name) earlier)) (fault_at place NameTwice (thing.Export m i) field.Name))
      (names_among (x ∷ earlier) m (suc i) xs)

  unfoldable pub names_checked : Table → Checked P
  names_checked t = each (λ m x. names_among [] m 0 x.exports) 0 t.modules

  -- at most 256 atoms: the fault names the least module of atom 256
  abbrev pub least_of_256 : View → ℕ
  least_of_256 t = slice_index (leasts t.modules t.entries (has t)) 256

  unfoldable pub atoms_checked : Table → Checked P
  atoms_checked t = unless (nat_le (atoms (view t)) 256) (fault_at place (TooManyAtoms (least_of_256 (view t))) (thing.Module (least_of_256 (view t))) field.Whole)

-- enough words
unfoldable pub words_checked : {P : Type 0} → ℕ → Table → Checked P
words_checked words t =
    let n = need (length t.modules) (length t.entries) in unless (nat_le n words) (plain_fault (TooFewWords n))

-- all checks of begin over a table and so many words, where no plan is begun yet
unfoldable pub table_checked : {P : Type 0} → ℕ → Meaning P → Checked P
table_checked words v =
    then (counts_checked v.place v.table)
    (then (words_checked words v.table)
    (then (numbers_checked v.place v.table)
    (then (links_checked v.place v.table)
    (then (names_checked v.place v.table) (atoms_checked v.place v.table)))))

-- and where one may be
unfoldable pub begin_checked : {P : Type 0} → Bool → ℕ → Meaning P → Checked P
begin_checked begun words v = cond begun (Err (plain_fault BegunAlready)) (table_checked words v)
