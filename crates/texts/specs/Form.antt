-- The form of a text: its lines, and which of them come one after another.
use Rattle.std.specs.Prelude.{ℕ, zero, suc, ◌+◌, Bool, true, false, cond, List, [], ◌∷◌, Ok, Err, Result, ◌==◌}
use Rattle.texts.specs.declared.place.TextPlace.{TextPlace}
use Rattle.lines.specs.Field.{bind}
use Rattle.lines.specs.Lines.{LineValue, line_of, number_at}

-- one byte more in front of the first line; without a line it is unfinished and counts for nothing
abbrev pub grow : ℕ → List (List ℕ) → List (List ℕ)
grow b [] = []
grow b (l ∷ ls) = (b ∷ l) ∷ ls

-- the finished lines of a text, without the byte 10 that ends each
abbrev pub lines_of : List ℕ → List (List ℕ)
lines_of [] = []
lines_of (b ∷ bs) = cond (b == 10) ([] ∷ lines_of bs) (grow b (lines_of bs))

-- every byte belongs to a finished line
abbrev pub finished : List ℕ → Bool
finished [] = true
finished (b ∷ []) = b == 10
finished (b ∷ c ∷ bs) = finished (c ∷ bs)

-- where the reading is: the number of the next line, from 1, the finished lines left, and whether nothing follows them
pub record At : Type 0 where
  pub line : ℕ
  pub left : List (List ℕ)
  pub whole : Bool

abbrev pub at : ℕ → List (List ℕ) → Bool → At
at n ls w = record { line = n; left = ls; whole = w }

-- before the bytes of a text, of which the first line has the number n
abbrev pub reading : ℕ → List ℕ → At
reading n bs = at n (lines_of bs) (finished bs)

-- a place, by line and column
abbrev pub place : ℕ → ℕ → TextPlace
place n c = record { line = n; column = c }

-- something read, and where the reading is then; or the place of the fault
abbrev pub Step : Type 0 → Type 0
Step A = Result (A × At) TextPlace

-- a result of line n: the second value is a column
abbrev pub placed : {A : Type 0} → ℕ → Result A ℕ → Result A TextPlace
placed n (Ok a) = Ok a
placed n (Err c) = Err (place n c)

-- the line has the letter k
abbrev pub starts : ℕ → List ℕ → Bool
starts k [] = false
starts k (b ∷ bs) = b == k

-- a line with its number
pub record LineAt : Type 0 where
  pub number : ℕ
  pub value : LineValue

abbrev pub line_at : ℕ → LineValue → LineAt
line_at n v = record { number = n; value = v }

-- the next line has the letter k
abbrev pub one_line : ℕ → Bool → ℕ → List (List ℕ) → Step LineAt
one_line k w n [] = Err (place n 1)
one_line k w n (l ∷ ls) = cond (starts k l) (bind (placed n (line_of l)) (λ v. Ok (line_at n v, at (n + 1) ls w))) (Err (place n 1))

abbrev pub one : ℕ → At → Step LineAt
one k p = one_line k p.whole p.line p.left

-- one thing in front of what is read after it
abbrev pub before : {A : Type 0} → A → Step (List A) → Step (List A)
before v r = bind r (λ s. Ok (v ∷ s.0, s.1))

-- as many lines as have the letter k
abbrev pub many_lines : ℕ → Bool → ℕ → List (List ℕ) → Step (List LineAt)
many_lines k w n [] = Ok ([], at n [] w)
many_lines k w n (l ∷ ls) =
    cond (starts k l) (bind (placed n (line_of l)) (λ v. before (line_at n v) (many_lines k w (n + 1) ls))) (Ok ([], at n (l ∷ ls) w))

abbrev pub many : ℕ → At → Step (List LineAt)
many k p = many_lines k p.whole p.line p.left

-- one thing after another, as many as said
abbrev pub times : {A : Type 0} → (At → Step A) → ℕ → At → Step (List A)
times f zero p = Ok ([], p)
times f (suc n) p = bind (f p) (λ a. before a.0 (times f n a.1))

-- a module, by its lines: the M line and its lists
pub record ModuleLines : Type 0 where
  pub head : LineAt
  pub loads : List LineAt
  pub dependencies : List LineAt
  pub resolved : List LineAt
  pub references : List LineAt
  pub exports : List LineAt
  pub partial : List LineAt

-- an entry, by its lines: the E line and its sites
pub record EntryLines : Type 0 where
  pub head : LineAt
  pub sites : List LineAt

-- a text, by its lines: the T line, the modules, the entries, and the S lines
pub record TextLines : Type 0 where
  pub head : LineAt
  pub modules : List ModuleLines
  pub entries : List EntryLines
  pub symbols : List LineAt

-- M, then L, D, R, U, X and P lines
abbrev pub module_lines : At → Step ModuleLines
module_lines p =
    bind (one 77 p) (λ h. bind (many 76 h.1) (λ l. bind (many 68 l.1) (λ d. bind (many 82 d.1) (λ r. bind (many 85 r.1) (λ u.
    bind (many 88 u.1) (λ x. bind (many 80 x.1) (λ q.
    Ok (record { head = h.0; loads = l.0; dependencies = d.0; resolved = r.0; references = u.0; exports = x.0; partial = q.0 }, q.1))))))))

-- E, then I lines
abbrev pub entry_lines : At → Step EntryLines
entry_lines p = bind (one 69 p) (λ h. bind (many 73 h.1) (λ i. Ok (record { head = h.0; sites = i.0 }, i.1)))

-- no line is left, and none is begun
abbrev pub ending : {A : Type 0} → A → At → Result A TextPlace
ending a p = elim p.left [ [] ↦ cond p.whole (Ok a) (Err (place p.line 1)) | l ∷ ls ↦ Err (place p.line 1) ]

-- T, then as many modules, entries and symbols as it says; else the first wrong or missing line, and its column
abbrev pub parsed : List ℕ → Result TextLines TextPlace
parsed text =
    bind (one 84 (reading 1 text)) (λ t. bind (times module_lines (number_at t.0.value 0) t.1) (λ m.
    bind (times entry_lines (number_at t.0.value 1) m.1) (λ e. bind (times (one 83) (number_at t.0.value 2) e.1) (λ s.
    ending (record { head = t.0; modules = m.0; entries = e.0; symbols = s.0 }) s.1))))
