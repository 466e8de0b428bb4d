-- A line by its letter, its fields and its name. The second value of a result is the wrong column, from 1.
use Rattle.std.specs.Prelude.{ℕ, cond, List, [], ◌∷◌, Some, None, Ok, Err, Option, Result, ◌==◌, slice_index_or}
use Rattle.lines.specs.Field.{bind, number, optional, bit, name, ended}

-- a line: its letter, its fields, absent where they are blank, and its name, empty where the kind has none
pub record LineValue : Type 0 where
  pub kind : ℕ
  pub fields : List (Option ℕ)
  pub name : List ℕ

-- a line by those three
abbrev pub values : ℕ → List (Option ℕ) → List ℕ → LineValue
values k fs n = record { kind = k; fields = fs; name = n }

-- T: modules, entries, symbols, runtime, strict
abbrev pub table_line : List ℕ → Result LineValue ℕ
table_line l =
    bind (number l 0) (λ m. bind (number l 6) (λ e. bind (number l 12) (λ s. bind (optional l 18) (λ r. bind (bit l 24) (λ t. bind (ended l 30) (λ _.
    Ok (values 84 (Some m ∷ Some e ∷ Some s ∷ r ∷ Some t ∷ []) [])))))))

-- M: flags, namespace, wrapper, wrap
abbrev pub module_line : List ℕ → Result LineValue ℕ
module_line l =
    bind (number l 0) (λ f. bind (optional l 6) (λ n. bind (optional l 12) (λ w. bind (number l 18) (λ k. bind (ended l 24) (λ _.
    Ok (values 77 (Some f ∷ n ∷ w ∷ Some k ∷ None ∷ []) []))))))

-- L, D, R, U: one number
abbrev pub item : List ℕ → Result ℕ ℕ
item l = bind (number l 0) (λ d. bind (ended l 6) (λ _. Ok d))

abbrev pub number_line : ℕ → List ℕ → Result LineValue ℕ
number_line k l = bind (item l) (λ d. Ok (values k (Some d ∷ None ∷ None ∷ None ∷ None ∷ []) []))

-- X: symbol, from CommonJS, name
abbrev pub export_line : List ℕ → Result LineValue ℕ
export_line l = bind (number l 0) (λ s. bind (bit l 6) (λ c. bind (name l 12) (λ n. Ok (values 88 (Some s ∷ Some c ∷ None ∷ None ∷ None ∷ []) n))))

-- P: name
abbrev pub partial_line : List ℕ → Result LineValue ℕ
partial_line l = bind (name l 0) (λ n. Ok (values 80 (None ∷ None ∷ None ∷ None ∷ None ∷ []) n))

-- E: module, flags
abbrev pub entry_line : List ℕ → Result LineValue ℕ
entry_line l = bind (number l 0) (λ m. bind (number l 6) (λ f. bind (ended l 12) (λ _. Ok (values 69 (Some m ∷ Some f ∷ None ∷ None ∷ None ∷ []) []))))

-- I: importer, resolved, flags
abbrev pub site_line : List ℕ → Result LineValue ℕ
site_line l =
    bind (number l 0) (λ i. bind (optional l 6) (λ r. bind (number l 12) (λ f. bind (ended l 18) (λ _.
    Ok (values 73 (Some i ∷ r ∷ Some f ∷ None ∷ None ∷ []) [])))))

-- S: owner, link, alias, flags
abbrev pub symbol_line : List ℕ → Result LineValue ℕ
symbol_line l =
    bind (number l 0) (λ o. bind (number l 6) (λ k. bind (optional l 12) (λ a. bind (number l 18) (λ f. bind (ended l 24) (λ _.
    Ok (values 83 (Some o ∷ Some k ∷ a ∷ Some f ∷ None ∷ []) []))))))

-- a line with its letter; an empty line and an unknown letter are wrong in column 1
abbrev pub line_of : List ℕ → Result LineValue ℕ
line_of [] = Err 1
line_of (k ∷ l) =
    cond (k == 84) (table_line l)
    (cond (k == 77) (module_line l)
    (cond (k == 76) (number_line 76 l)
    (cond (k == 68) (number_line 68 l)
    (cond (k == 82) (number_line 82 l)
    (cond (k == 85) (number_line 85 l)
    (cond (k == 88) (export_line l)
    (cond (k == 80) (partial_line l)
    (cond (k == 69) (entry_line l)
    (cond (k == 73) (site_line l)
    (cond (k == 83) (symbol_line l) (Err 1)))))))))))

-- field i, from 0: absent where it is blank, and past the last
abbrev pub optional_at : LineValue → ℕ → Option ℕ
optional_at v i = slice_index_or v.fields i None

abbrev pub or_zero : Option ℕ → ℕ
or_zero None = 0
or_zero (Some n) = n

-- field i as a number: 0 where it is absent
abbrev pub number_at : LineValue → ℕ → ℕ
number_at v i = or_zero (optional_at v i)
