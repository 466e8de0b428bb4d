-- What words say stays said where the words are as they were.
use Rattle.std.proofs.Common.{◌≡◌, ℕ, ◌+◌, ◌*◌, ◌/◌, ◌<◌, ◌≤◌, Bool, false, List, get_or, ap, ◌∙◌, arith}
use Rattle.tables.specs.View.{View, entry_count}
use Rattle.rows.specs.Bits.{has as has_bit}
use Rattle.rows.proofs.Laws.{has_frame, has_zero}
use Rattle.definitions.specs.Bits.{atoms}
use Rattle.areas.specs.Says.{SaysWords, SaysRows, EmptyRows, ZeroWords, SaysStarts, SaysLoaders}
use Rattle.areas.specs.Frames.{Changed, SamePart}

-- a part before what changed, and one between that and the scratch
pub part_before : {lo hi scratch : ℕ} {ws vs : List ℕ} (at n : ℕ) → Changed lo hi scratch ws vs → at + n ≤ lo → SamePart at n ws vs
part_before at n c le = record { same = λ k a b. c.before k (omega arith) }

pub part_between : {lo hi scratch : ℕ} {ws vs : List ℕ} (at n : ℕ) → Changed lo hi scratch ws vs → hi ≤ at → at + n ≤ scratch → SamePart at n ws vs
part_between at n c h le = record { same = λ k a b. c.between k (omega arith) (omega arith) }

-- one after the other
pub part_on : {at n : ℕ} {us ws vs : List ℕ} → SamePart at n us ws → SamePart at n ws vs → SamePart at n us vs
part_on p q = record { same = λ k a b. q.same k a b ∙ p.same k a b }

-- a part of a part
pub part_of : {at n : ℕ} {ws vs : List ℕ} (at' n' : ℕ) → SamePart at n ws vs → at ≤ at' → at' + n' ≤ at + n → SamePart at' n' ws vs
part_of at' n' p a b = record { same = λ k c d. p.same k (omega arith) (omega arith) }

-- a word and a bit of a row in such a part
pub same_word : {at n : ℕ} {ws vs : List ℕ} → SamePart at n ws vs → (i : ℕ) → i < n → get_or vs (at + i) 0 ≡ get_or ws (at + i) 0
same_word {at} p i l = p.same (at + i) (omega arith) (omega arith)

in_row : (i : ℕ) → i < 256 → i / 64 < 4
in_row i l = omega arith

pub same_bit : {at : ℕ} {ws vs : List ℕ} (n : ℕ) → SamePart at (4 * n) ws vs → (a i : ℕ) → a < n → i < 256 → has_bit vs (at + 4 * a) i ≡ has_bit ws (at + 4 * a) i
same_bit {at} {ws} {vs} n p a i l b =
    let q = in_row i b in
    has_frame vs ws (at + 4 * a) i (p.same (at + 4 * a + i / 64) (omega arith) (omega arith))

pub words_kept : {n at : ℕ} {f : ℕ → ℕ} {ws vs : List ℕ} → SamePart at n ws vs → SaysWords n f at ws → SaysWords n f at vs
words_kept p s = record { said = λ k l. same_word p k l ∙ s.said k l }

pub rows_kept : {n at : ℕ} {f : ℕ → ℕ → Bool} {ws vs : List ℕ} → SamePart at (4 * n) ws vs → SaysRows n f at ws → SaysRows n f at vs
rows_kept {n} p s = record { said = λ a b l h. same_bit n p a b l h ∙ s.said a b l h }

module _ {t : View} {at : ℕ} {ws vs : List ℕ} where
  pub loaders_kept : entry_count t ≤ 256 → SamePart at (4 * atoms t) ws vs → SaysLoaders t at ws → SaysLoaders t at vs
  loaders_kept few p s = record {
    these = λ a e l b. same_bit (atoms t) p a e l (omega arith) ∙ s.these a e l b;
    no_other = λ a e l g b. same_bit (atoms t) p a e l b ∙ s.no_other a e l g b;
  }

  pub starts_kept : entry_count t ≤ 256 → SamePart at 4 ws vs → SaysStarts t at ws → SaysStarts t at vs
  starts_kept few p s = record { these = λ e l. one e (omega arith) ∙ s.these e l; no_other = λ e g b. one e b ∙ s.no_other e g b }
    where
      one : (e : ℕ) → e < 256 → has_bit vs at e ≡ has_bit ws at e
      one e b = let q = in_row e b in has_frame vs ws at e (p.same (at + e / 64) (omega arith) (omega arith))

-- words that are 0 are rows that are empty
pub zero_rows : (n at : ℕ) (ws : List ℕ) → ZeroWords at (4 * n) ws → EmptyRows at n ws
zero_rows n at ws z = record { said = one }
  where
    one : (a b : ℕ) → a < n → b < 256 → has_bit ws (at + 4 * a) b ≡ false
    one a b l c =
        let q = in_row b c in
        let e : at + 4 * a + b / 64 ≡ at + (4 * a + b / 64) = omega arith in
        has_zero ws (at + 4 * a) b (ap (λ k. get_or ws k 0) e ∙ z.said (4 * a + b / 64) (omega arith))
