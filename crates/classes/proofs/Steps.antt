-- One row more in the words.
use Rattle.std.proofs.Common.{◌≡◌, ℕ, ◌+◌, ◌*◌, ◌/◌, ◌<◌, ◌≤◌, Bool, true, false, List, [], ◌∷◌, length, get_or, set, None, IsTrue, ◌↔◌, Option, sym, refl, ap, ◌∙◌, subst, ⊎_elim, arith, length-append, length-set}
use Rattle.std.proofs.lemmas.List.{get_or-set_same, get_or-set_other, get_or_at, get_or_append_left}
use Rattle.std.proofs.lemmas.Bool.{cases_eq, both_ways}
use Rattle.std.proofs.lemmas.Bool.Decides.{same_from_decides}
use Rattle.std.proofs.ByRecursion.{All-get_or}
use Rattle.rows.specs.Bits.{has, Next}
use Rattle.rows.proofs.Laws.{has_frame}
use Rattle.definitions.specs.Classes.{Rows, same_row, least, leasts, classes, class}
use Rattle.definitions.proofs.Classes.{same_row_decides, those_pass}
use Rattle.classes.specs.Numbering.{row_has, Layout, same_as, Firsts, stored, Numbering, Over}
use Rattle.classes.specs.declared.RowPlaces.{RowPlaces}
use Rattle.classes.specs.declared.TooManyClasses.{TooManyClasses}
use Rattle.classes.proofs.Placing.{place_next, leasts_same, leasts_new, class_same, class_new, class_old, leasts_on}

-- a row in words that are equal there
row_frame : (rows i k : ℕ) (ws vs : List ℕ) → ((j : ℕ) → j < rows + 4 * i + 4 → get_or vs j 0 ≡ get_or ws j 0) → k < 256 → row_has rows vs i k ≡ row_has rows ws i k
unfolding row_has
row_frame rows i k ws vs same h = has_frame vs ws (rows + 4 * i) k (same (rows + 4 * i + k / 64) (omega arith))

same_rows : (b c : Rows) (i j : ℕ) → ((k : ℕ) → k < 256 → b i k ≡ c i k) → ((k : ℕ) → k < 256 → b j k ≡ c j k) → same_row 256 b i j ≡ same_row 256 c i j
same_rows b c i j p q =
    same_from_decides _ _ (same_row_decides 0 256 b i j)
    (λ h k l. p k l ∙ (same_row_decides 0 256 c i j).0 h k l ∙ sym (q k l), λ h. (same_row_decides 0 256 c i j).1 (λ k l. sym (p k l) ∙ h k l ∙ q k l))

-- ---- the search for a class

pub same_is : (at : RowPlaces) (ws : List ℕ) (i a : ℕ) (b : Bool)
    → (IsTrue b ↔ ((k : ℕ) → k < 256 → has ws (at.rows + 4 * get_or ws (at.firsts + a) 0) k ≡ has ws (at.rows + 4 * i) k)) → b ≡ same_as at ws i a
unfolding same_as row_has
same_is at ws i a b d = same_from_decides b _ d (same_row_decides 0 256 (row_has at.rows ws) (get_or ws (at.firsts + a) 0) i)

-- ---- a row is numbered

module _ {bits : Rows} {at : RowPlaces} {most m count : ℕ} {ws : List ℕ} (s : Numbering bits at most m count ws) where
  first_below : (a : ℕ) → a < count → get_or (leasts m 256 bits) a 0 < m
  unfolding classes leasts
  first_below a l =
      (All-get_or (λ x. (x < m) × (least 256 bits x ≡ true)) (leasts m 256 bits) a 0 (omega arith) (those_pass (least 256 bits) m)).0

  pub firsts_below : m ≤ at.count → Firsts at count ws
  firsts_below h a l = subst (λ x. x < at.count) (sym (s.first a l)) (let small = first_below a l in omega arith)

  module _ (layout : Layout at most (length ws)) (small : m < at.count) where
    pub row_empty : (b : Bool) → (IsTrue b ↔ ((k : ℕ) → k < 256 → has ws (at.rows + 4 * m) k ≡ false)) → b ≡ true → (k : ℕ) → k < 256 → bits m k ≡ false
    unfolding row_has
    row_empty b d h k l = sym (s.rows_are m k small l) ∙ d.0 h k l

    pub row_some : (b : Bool) → (IsTrue b ↔ ((k : ℕ) → k < 256 → has ws (at.rows + 4 * m) k ≡ false)) → b ≡ false → ((k : ℕ) → k < 256 → bits m k ≡ false) → ⊥
    unfolding row_has
    row_some b d h none = both_ways b h (d.1 (λ k l. s.rows_are m k small l ∙ none k l))

    -- the search answers the row's class among those that there are
    pub class_found : (r : Option ℕ) → Next (same_as at ws m) 0 count r → class m 256 bits m ≡ r
    unfolding class classes same_as
    class_found r h =
        place_next (λ j. same_row 256 bits j m) (leasts m 256 bits) 0 (same_as at ws m) count s.counts
        (λ a l.
        let below = first_below a l in
        ap (λ j. same_row 256 (row_has at.rows ws) j m) (s.first a l)
        ∙ same_rows (row_has at.rows ws) bits (get_or (leasts m 256 bits) a 0) m (λ k b. s.rows_are _ k (omega arith) b) (λ k b. s.rows_are m k small b))
        r h

    -- the row begins no class
    pub number_same : least 256 bits m ≡ false → (x : ℕ) → x ≡ stored (class m 256 bits m) → Numbering bits at most (m + 1) count (set ws (at.numbers + m) x)
    unfolding classes
    number_same h x is =
        let other : (j : ℕ) → (j ≡ at.numbers + m → ⊥) → get_or (set ws (at.numbers + m) x) j 0 ≡ get_or ws j 0 = λ j ne. get_or-set_other ws (at.numbers + m) j x 0 ne in
        record {
          rows_are = λ i k l b. row_frame at.rows i k ws (set ws (at.numbers + m) x) (λ j c. other j (λ e. omega arith)) b ∙ s.rows_are i k l b;
          counts = s.counts ∙ ap length (sym (leasts_same 256 bits m h));
          at_most = s.at_most;
          few = omega arith;
          first = λ a l. other (at.firsts + a) (λ e. omega arith) ∙ s.first a l ∙ ap (λ xs. get_or xs a 0) (sym (leasts_same 256 bits m h));
          number = λ i l.
              ⊎_elim
              (λ (e : i ≡ m).
              ap (λ j. get_or (set ws (at.numbers + m) x) (at.numbers + j) 0) e ∙ get_or-set_same ws (at.numbers + m) x 0 (omega arith) ∙ is
              ∙ ap stored (sym (class_same 256 bits m h m)) ∙ ap (λ j. stored (class (m + 1) 256 bits j)) (sym e))
              (λ (ne : i ≡ m → ⊥). other (at.numbers + i) (λ e. ne (omega arith)) ∙ s.number i (omega arith) ∙ ap stored (sym (class_same 256 bits m h i)))
              (cases_eq i m);
        }

    module _ (new : least 256 bits m ≡ true) (none : class m 256 bits m ≡ None) where
      classes_new : classes (m + 1) 256 bits ≡ count + 1
      unfolding classes
      classes_new =
          let long = ap length (leasts_new 256 bits m new) ∙ length-append (leasts m 256 bits) (m ∷ []) in omega arith

      leasts_old : (a : ℕ) → a < count → get_or (leasts (m + 1) 256 bits) a 0 ≡ get_or (leasts m 256 bits) a 0
      unfolding classes
      leasts_old a l = ap (λ xs. get_or xs a 0) (leasts_new 256 bits m new) ∙ get_or_append_left (leasts m 256 bits) (m ∷ []) 0 a (omega arith)

      leasts_last : get_or (leasts (m + 1) 256 bits) count 0 ≡ m
      unfolding classes
      leasts_last =
          ap (λ xs. get_or xs count 0) (leasts_new 256 bits m new) ∙ get_or_at (leasts m 256 bits) m [] 0 count (sym s.counts)

      pub number_over : count ≡ most → Over bits (m + 1) most (record { least = m })
      number_over full = record {
        many = let is = classes_new in omega arith;
        which = sym leasts_last ∙ ap (λ k. get_or (leasts (m + 1) 256 bits) k 0) full;
      }

      pub number_new : count < most → Numbering bits at most (m + 1) (count + 1) (set (set ws (at.firsts + count) m) (at.numbers + m) (count + 1))
      number_new more =
          let vs = set ws (at.firsts + count) m in
          let x = count + 1 in
          let other : (j : ℕ) → (j ≡ at.numbers + m → ⊥) → get_or (set vs (at.numbers + m) x) j 0 ≡ get_or vs j 0 = λ j ne. get_or-set_other vs (at.numbers + m) j x 0 ne in
          let before : (j : ℕ) → (j ≡ at.firsts + count → ⊥) → get_or vs j 0 ≡ get_or ws j 0 = λ j ne. get_or-set_other ws (at.firsts + count) j m 0 ne in
          record {
            rows_are = λ i k l b. row_frame at.rows i k ws (set vs (at.numbers + m) x) (λ j c. other j (λ e. omega arith) ∙ before j (λ e. omega arith)) b ∙ s.rows_are i k l b;
            counts = sym classes_new;
            at_most = omega arith;
            few = omega arith;
            first = λ a l.
                ⊎_elim
                (λ (e : a ≡ count).
                other (at.firsts + a) (λ q. omega arith) ∙ ap (λ j. get_or vs (at.firsts + j) 0) e ∙ get_or-set_same ws (at.firsts + count) m 0 (omega arith)
                ∙ sym leasts_last ∙ ap (λ j. get_or (leasts (m + 1) 256 bits) j 0) (sym e))
                (λ (ne : a ≡ count → ⊥). other (at.firsts + a) (λ q. omega arith) ∙ before (at.firsts + a) (λ q. ne (omega arith)) ∙ s.first a (omega arith) ∙ sym (leasts_old a (omega arith)))
                (cases_eq a count);
            number = λ i l.
                ⊎_elim
                (λ (e : i ≡ m).
                ap (λ j. get_or (set vs (at.numbers + m) x) (at.numbers + j) 0) e ∙ get_or-set_same vs (at.numbers + m) x 0 (subst (λ k. at.numbers + m < k) (sym (length-set ws (at.firsts + count) m)) (omega arith))
                ∙ ap (λ k. k + 1) s.counts ∙ ap stored (sym (class_new 256 bits m new none)) ∙ ap (λ j. stored (class (m + 1) 256 bits j)) (sym e))
                (λ (ne : i ≡ m → ⊥). other (at.numbers + i) (λ e. ne (omega arith)) ∙ before (at.numbers + i) (λ q. omega arith) ∙ s.number i (omega arith) ∙ ap stored (sym (class_old 256 bits m new i (omega arith))))
                (cases_eq i m);
          }

-- ---- the whole

pub number_none : (at : RowPlaces) (most : ℕ) (ws : List ℕ) → Numbering (row_has at.rows ws) at most 0 0 ws
unfolding classes leasts
number_none at most ws = record {
  rows_are = λ i k l b. refl;
  counts = refl;
  at_most = omega arith;
  few = omega arith;
  first = λ a l. absurd (omega arith);
  number = λ i l. absurd (omega arith);
}

pub over_on : (bits : Rows) (m n most : ℕ) (e : TooManyClasses) → m < n → Over bits (m + 1) most e → Over bits n most e
over_on bits m n most e l o =
    let q = leasts_on 256 bits (m + 1) n most 0 (omega arith) o.many in
    record { many = q.0; which = o.which ∙ sym q.1 }
