-- The causes of a refusal: the number of each, and the numbers that it returns beside the fault's thing and place.
use Rattle.std.specs.Prelude.{ℕ, List, [], ◌∷◌, None}
use Rattle.tables.specs.declared.fault.Cause.{Cause}
use Rattle.tables.specs.declared.fault.Fault.{Fault}
use Rattle.tables.specs.declared.thing.Field.TheVariants.{Whole}
use Rattle.tables.specs.declared.fault.Cause.TheVariants.{BrokenForm, TooFewWords, TooMany, NamesNothing, EndlessLinks, NameTwice, TooManyAtoms, BegunAlready, NotBegun, NothingThere, ShortBuffer}

-- what is told of a refusal
pub record Told : Type 0 where
  pub number : ℕ
  pub returned : List ℕ

abbrev telling : ℕ → List ℕ → Told
telling n xs = record { number = n; returned = xs }

abbrev pub told : Cause → Told
told (BrokenForm line column) = telling 1 (line ∷ column ∷ [])
told (TooFewWords needed) = telling 2 (needed ∷ [])
told (TooMany count) = telling 3 (count ∷ [])
told NamesNothing = telling 4 []
told (EndlessLinks symbol) = telling 5 (symbol ∷ [])
told NameTwice = telling 6 []
told (TooManyAtoms least) = telling 7 (least ∷ [])
told BegunAlready = telling 8 []
told NotBegun = telling 9 []
told NothingThere = telling 10 []
told ShortBuffer = telling 11 []

abbrev pub number_of : Cause → ℕ
number_of c = (told c).number

-- a refusal that speaks of no thing, and has no place
abbrev pub bare_fault : {P : Type 0} → Cause → Fault P
bare_fault c = record { cause = c; thing = None; field = Whole; place = None }
