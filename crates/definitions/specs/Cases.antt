-- The small cases, as one fact about the definitions.
use Rattle.std.specs.Prelude.{◌≡◌, ℕ, ◌<◌, false, List, [], ◌∷◌, ◌++◌, map, Some, None, Ok, Err, codes}
use Rattle.std.specs.List.{range_with_len}
use Rattle.definitions.specs.declared.Verdict.TheVariants.{AcceptedWithNamespace}
use Rattle.tables.specs.Below.{those_below}
use Rattle.tables.specs.Value.{Table, Module, Entry, Export, Meaning}
use Rattle.tables.specs.View.{View, view, module_count, entry_count}
use Rattle.tables.specs.declared.parts.Symbol.{Symbol}
use Rattle.definitions.specs.Bits.{atoms}
use Rattle.definitions.specs.Plan.{Veto, number, decided, first, has_after, need}
use Rattle.tables.specs.declared.fault.Cause.{Cause}
use Rattle.tables.specs.declared.fault.Cause.TheVariants.{TooFewWords, NamesNothing, EndlessLinks, NameTwice}
use Rattle.tables.specs.declared.thing.Field.{Field}
use Rattle.tables.specs.declared.thing.Field.TheVariants as field
use Rattle.tables.specs.declared.thing.ModuleList.TheVariants.{Loads}
use Rattle.tables.specs.declared.thing.Thing.{Thing}
use Rattle.tables.specs.declared.thing.Thing.TheVariants as thing
use Rattle.definitions.specs.Checks.{Checked, plain_fault}
use Rattle.definitions.specs.Lines.{P, A, M, B, lines}

-- a normal, included module that loads some modules and exports some symbols
abbrev plain : List ℕ → List Export → Module
plain loaded xs = record { flags = 3; namespace = None; wrapper = None; wrap = 0; loads = loaded; dependencies = []; resolved = []; references = []; exports = xs; partial = [] }

abbrev export : List ℕ → ℕ → Export
export n s = record { name = n; symbol = s; from_commonjs = false }

-- a symbol that is its own end
abbrev own_symbol : ℕ → ℕ → Symbol
own_symbol m s = record { owner = m; link = s; alias = None; flags = 0 }

-- an entry that is not dynamic, with its flags; and a dynamic one, imported at one site
abbrev static : ℕ → ℕ → Entry
static m f = record { root = m; flags = f; sites = [] }

abbrev imported : ℕ → ℕ → ℕ → Entry
imported m importer f = record { root = m; flags = 3; sites = record { importer = importer; target = Some m; flags = f } ∷ [] }

abbrev table : List Module → List Entry → List Symbol → Table
table ms es ss = record { modules = ms; entries = es; symbols = ss; runtime = None; strict = false }

-- module 2 is the first entry's and module 1 the dynamic one's; both load module 0
abbrev pub case1 : Table
case1 = table (plain [] [] ∷ plain (0 ∷ []) [] ∷ plain (0 ∷ []) [] ∷ []) (static 2 0 ∷ imported 1 2 3 ∷ []) []

-- module 0 exports a symbol of its own, and entry 0 is strict
abbrev pub case2 : Table
case2 =
    table (plain [] (export (codes "x") 0 ∷ []) ∷ plain (0 ∷ []) [] ∷ plain (0 ∷ []) [] ∷ []) (static 2 8 ∷ imported 1 2 3 ∷ []) (own_symbol 0 0 ∷ [])

abbrev pub case3 : Table
case3 = table [] [] []

-- modules u, p, q, main; main imports p, p imports q, and both load u, which exports its own symbol; p's own exports
abbrev chained : List Export → Table
chained xs =
    table (plain [] (export (codes "x") 0 ∷ []) ∷ plain (0 ∷ []) xs ∷ plain (0 ∷ []) [] ∷ plain [] [] ∷ [])
    (static 3 0 ∷ imported 1 3 3 ∷ imported 2 1 3 ∷ []) (own_symbol 0 0 ∷ own_symbol 1 1 ∷ [])

abbrev pub case4 : Table
case4 = chained []

abbrev pub case5 : Table
case5 = chained (export (codes "then") 1 ∷ [])

-- modules u, a, b; a and b are dynamic entries that import only each other, and both load u
abbrev pub case6 : Table
case6 = table (plain [] [] ∷ plain (0 ∷ []) [] ∷ plain (0 ∷ []) [] ∷ []) (imported 1 2 3 ∷ imported 2 1 3 ∷ []) []

-- modules 0, b, d, f; entry 0 is b; b loads 0, d loads b, f loads 0; b imports d and f
abbrev pub case7 : Table
case7 = table (plain [] [] ∷ plain (0 ∷ []) [] ∷ plain (1 ∷ []) [] ∷ plain (0 ∷ []) [] ∷ []) (static 1 0 ∷ imported 2 1 3 ∷ imported 3 1 3 ∷ []) []

-- case 1, and the statement is not included
abbrev pub case8 : Table
case8 = table (plain [] [] ∷ plain (0 ∷ []) [] ∷ plain (0 ∷ []) [] ∷ []) (static 2 0 ∷ imported 1 2 2 ∷ []) []

-- case 4, and p exports the name too, by a symbol that links to u's: another number, the same end
abbrev pub case9 : Table
case9 =
    table (plain [] (export (codes "x") 0 ∷ []) ∷ plain (0 ∷ []) (export (codes "x") 1 ∷ []) ∷ plain (0 ∷ []) [] ∷ plain [] [] ∷ [])
    (static 3 0 ∷ imported 1 3 3 ∷ imported 2 1 3 ∷ []) (own_symbol 0 0 ∷ record { owner = 1; link = 0; alias = None; flags = 0 } ∷ [])

abbrev pub never : Veto
never ms = false

-- all atoms, in number order
abbrev pub in_order : View → List ℕ
in_order t = first t (atoms t)

-- all atoms, and then the first once more: an order in which the small cases do not hold
abbrev pub first_again : View → List ℕ
first_again t = in_order t ++ 0 ∷ []

module _ (order : View → List ℕ) where
  -- the verdicts' numbers after the atoms are decided in the order
  unfoldable pub verdicts : View → List ℕ
  verdicts t = let vs = decided t never (order t) in map (λ a. number (vs a)) (range_with_len 0 (atoms t))

  -- the entries of module m then
  unfoldable pub entries_after : View → ℕ → List ℕ
  entries_after t m = those_below (entry_count t) (has_after t (decided t never (order t)) m)

-- the small cases, where all atoms are decided in an order
pub record SmallCases (order : View → List ℕ) : Type 0 where
  pub words : (need (module_count (view case1)) (entry_count (view case1)) ≡ 196) × (195 < need (module_count (view case1)) (entry_count (view case1)))
  pub one : lines (view case1) never (order (view case1)) ≡ P 3 3 1 2 ∷ A 0 6 1 ∷ A 1 1 1 ∷ A 2 1 1 ∷ M 0 0 0 ∷ M 1 1 1 ∷ M 2 2 0 ∷ B 0 0 ∷ B 1 1 ∷ []
  pub two : verdicts order (view case2) ≡ 4 ∷ 1 ∷ 1 ∷ []
  pub three : atoms (view case3) ≡ 0
  pub four : (decided (view case4) never (order (view case4)) 0 ≡ AcceptedWithNamespace 1 1) × (entries_after order (view case4) 0 ≡ 1 ∷ []) × (verdicts order (view case4) ≡ 7 ∷ 1 ∷ 1 ∷ 1 ∷ [])
  pub five : verdicts order (view case5) ≡ 4 ∷ 1 ∷ 1 ∷ 1 ∷ []
  pub six : verdicts order (view case6) ≡ 2 ∷ 2 ∷ 2 ∷ []
  pub seven : verdicts order (view case7) ≡ 5 ∷ 6 ∷ 1 ∷ 1 ∷ []
  pub eight : verdicts order (view case8) ≡ 6 ∷ 2 ∷ 1 ∷ []
  pub nine : verdicts order (view case9) ≡ 7 ∷ 1 ∷ 1 ∷ 1 ∷ []

-- a table whose things stand nowhere in particular
abbrev pub placeless : Table → Meaning (Unit {0})
placeless t = record { table = t; place = λ th f. None }

abbrev refused : Cause → Thing → Field → Checked (Unit {0})
refused c th f = Err (record { cause = c; thing = Some th; field = f; place = None })

-- one module that loads module 1, and one that exports a name twice
abbrev pub astray : Table
astray = table (plain (1 ∷ []) [] ∷ []) [] []

abbrev pub twice : Table
twice = table (plain [] (export (codes "x") 0 ∷ export (codes "y") 0 ∷ export (codes "x") 0 ∷ []) ∷ []) [] (own_symbol 0 0 ∷ [])

-- symbol 1 links to 2 and 2 to 1; symbol 0 ends
abbrev pub circle : Table
circle = table (plain [] [] ∷ []) [] (own_symbol 0 0 ∷ record { owner = 0; link = 2; alias = None; flags = 0 } ∷ record { owner = 0; link = 1; alias = None; flags = 0 } ∷ [])

-- what begin refuses of small tables, and what it accepts
pub record Refusals (check : ℕ → Meaning (Unit {0}) → Checked (Unit {0})) : Type 0 where
  pub enough : check 196 (placeless case1) ≡ Ok tt
  pub too_few : check 195 (placeless case1) ≡ Err (plain_fault (TooFewWords 196))
  pub none_needed : check 16 (placeless case3) ≡ Ok tt
  pub names_nothing : check 100 (placeless astray) ≡ refused NamesNothing (thing.Item Loads 0 0) field.Number
  pub words_first : check 10 (placeless astray) ≡ Err (plain_fault (TooFewWords 60))
  pub in_a_circle : check 100 (placeless circle) ≡ refused (EndlessLinks 1) (thing.Symbol 1) field.Whole
  pub name_twice : check 100 (placeless twice) ≡ refused NameTwice (thing.Export 0 2) field.Name
