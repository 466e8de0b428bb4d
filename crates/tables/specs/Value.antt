-- What a link table means: a value, and where each of its things stands.
use Rattle.std.specs.Prelude.{ℕ, Bool, List, Option}
use Rattle.tables.specs.declared.parts.Site.{Site}
use Rattle.tables.specs.declared.parts.Symbol.{Symbol}
use Rattle.tables.specs.declared.thing.Thing.{Thing}
use Rattle.tables.specs.declared.thing.Field.{Field}

-- an export, with its name by bytes
pub record Export : Type 0 where
  pub symbol : ℕ
  pub from_commonjs : Bool
  pub name : List ℕ

-- A module. Its lists: the modules that it loads (L) and depends on (D), those that its records resolve to, without dynamic
-- imports (R), the symbols that it references in force (U), its exports (X), and the names of its partial use (P).
pub record Module : Type 0 where
  pub flags : ℕ
  pub namespace : Option ℕ
  pub wrapper : Option ℕ
  pub wrap : ℕ
  pub loads : List ℕ
  pub dependencies : List ℕ
  pub resolved : List ℕ
  pub references : List ℕ
  pub exports : List Export
  pub partial : List (List ℕ)

-- an entry: its module, its flags, and the sites that import it (I)
pub record Entry : Type 0 where
  pub root : ℕ
  pub flags : ℕ
  pub sites : List Site

pub record Table : Type 0 where
  pub modules : List Module
  pub entries : List Entry
  pub symbols : List Symbol
  pub runtime : Option ℕ
  pub strict : Bool

-- a table's value, and where a thing or a field of it stands, in the table's own kind of place: none for what is not there
pub record Meaning (P : Type 0) : Type 0 where
  pub table : Table
  pub place : Thing → Field → Option P
