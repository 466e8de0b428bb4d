-- The fields of a line: six columns each, decimal, right-justified. `l` is a line without its letter, so that
-- what stands at offset `at` of `l` has the column at + 2, counted from 1.
use Rattle.std.specs.Prelude.{ℕ, ◌+◌, ◌-◌, ◌*◌, ◌<◌, Bool, cond, ◌&&◌, List, [], ◌∷◌, length, take, drop, Some, None, Ok, Err, Option, Result, ◌==◌, nat_le, nat_lt, slice_index}
use Rattle.lines.specs.declared.field.Field.{Field}
use Rattle.lines.specs.declared.field.Field.TheVariants.{Blank, Zero, Number, Wrong}
use Rattle.lines.specs.declared.wrong.WrongColumn.{WrongColumn}

-- go on with the value, or stop at the fault
abbrev pub bind : {A B E : Type 0} → Result A E → (A → Result B E) → Result B E
bind (Ok a) f = f a
bind (Err e) f = Err e

abbrev pub is_digit : ℕ → Bool
is_digit b = nat_le 48 b && nat_le b 57

-- One column more of a field: blanks, then 0 alone, or digits of which the first is not 0.
abbrev pub column : Field → ℕ → Field
column Blank b = cond (b == 32) Blank (cond (b == 48) Zero (cond (is_digit b) (Number (b - 48)) Wrong))
column Zero b = Wrong
column (Number v) b = cond (is_digit b) (Number (v * 10 + (b - 48))) Wrong
column Wrong b = Wrong

abbrev pub columns : Field → List ℕ → Field
columns f [] = f
columns f (b ∷ bs) = columns (column f b) bs

-- the field at an offset; one that is cut is wrong
abbrev pub field : List ℕ → ℕ → Field
field l at = cond (nat_le (at + 6) (length l)) (columns Blank (take 6 (drop at l))) Wrong

abbrev pub number_in : Field → ℕ → Result ℕ ℕ
number_in Blank c = Err c
number_in Zero c = Ok 0
number_in (Number v) c = Ok v
number_in Wrong c = Err c

abbrev pub optional_in : Field → ℕ → Result (Option ℕ) ℕ
optional_in Blank c = Ok None
optional_in Zero c = Ok (Some 0)
optional_in (Number v) c = Ok (Some v)
optional_in Wrong c = Err c

-- a number; a number or blank; 0 or 1
abbrev pub number : List ℕ → ℕ → Result ℕ ℕ
number l at = number_in (field l at) (at + 2)

abbrev pub optional : List ℕ → ℕ → Result (Option ℕ) ℕ
optional l at = optional_in (field l at) (at + 2)

abbrev pub bit : List ℕ → ℕ → Result ℕ ℕ
bit l at = bind (number l at) (λ v. cond (nat_lt v 2) (Ok v) (Err (at + 2)))

-- a blank and then a name of 1 to 255 bytes, to the end of the line
abbrev pub name : List ℕ → ℕ → Result (List ℕ) ℕ
name l at =
    cond (slice_index l at == 32)
    (cond (nat_le (at + 2) (length l) && nat_le (length l) (at + 256)) (Ok (drop (at + 1) l)) (Err (at + 3)))
    (Err (at + 2))

-- nothing follows the last field
abbrev pub ended : List ℕ → ℕ → Result (Unit {0}) ℕ
ended l at = cond (length l == at) (Ok tt) (Err 1)

-- a number below n, where there is one
abbrev pub Small : Field → ℕ → Type 0
Small Blank n = Unit {0}
Small Zero n = Unit {0}
Small (Number v) n = v < n
Small Wrong n = Unit {0}

-- 0 or 1, as a number
abbrev pub bit_value : Bool → ℕ
bit_value b = cond b 1 0

-- a result of the code, by a value of what it holds, or the wrong column
abbrev pub read_by : {A B : Type 0} → (A → B) → Result A WrongColumn → Result B ℕ
read_by f (Ok a) = Ok (f a)
read_by f (Err e) = Err e.column

-- a result of the code whose value stands for itself
abbrev pub as_read : {A : Type 0} → Result A WrongColumn → Result A ℕ
as_read = read_by (λ a. a)
