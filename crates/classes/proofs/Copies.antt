-- One row more is copied.
use Rattle.std.proofs.Common.{◌≡◌, ℕ, ◌+◌, ◌*◌, ◌/◌, ◌<◌, ◌≤◌, ◌⊎◌, List, length, get_or, sym, ap, ◌∙◌, subst, inl, inr, ⊎_elim, arith}
use Rattle.std.proofs.lemmas.Bool.{cases_eq}
use Rattle.rows.specs.Bits.{has, copied_row}
use Rattle.rows.proofs.Laws.{has_frame, word_op_row, has-copied_row}
use Rattle.classes.specs.declared.RowPlaces.{RowPlaces}
use Rattle.classes.specs.Copies.{Copied, CopyRoom}

module _ {at : RowPlaces} {count to a : ℕ} {ws us : List ℕ} (room : CopyRoom at count to ws) (s : Copied at to a ws us) (less : a < count) (long : length us ≡ length ws) where
  first_is : get_or us (at.firsts + a) 0 ≡ get_or ws (at.firsts + a) 0
  first_is = s.outside (at.firsts + a) (inl (omega arith))

  first_small : get_or us (at.firsts + a) 0 < at.count
  first_small = let is = first_is in let small = room.firsts_below a less in omega arith

  module _ (x : ℕ) (is : x ≡ get_or us (at.firsts + a) 0) where
    abbrev now : List ℕ
    now = copied_row us (to + 4 * a) (at.rows + 4 * x)

    word_stays : (k : ℕ) → (k < to + 4 * a) ⊎ (to + 4 * a + 4 ≤ k) → get_or now k 0 ≡ get_or us k 0
    word_stays k o = word_op_row (λ (c d : ℕ). d) us (to + 4 * a) (at.rows + 4 * x) k o

    row_copied : (k : ℕ) → k < 256 → has now (to + 4 * a) k ≡ has ws (at.rows + 4 * get_or ws (at.firsts + a) 0) k
    row_copied k b =
        let small = first_small in
        has-copied_row us (to + 4 * a) (at.rows + 4 * x) k (omega arith) b
        ∙ has_frame us ws (at.rows + 4 * x) k (s.outside (at.rows + 4 * x + k / 64) (inl (omega arith)))
        ∙ ap (λ y. has ws (at.rows + 4 * y) k) (is ∙ first_is)

    pub copied_more : Copied at to (a + 1) ws now
    copied_more = record {
      copied = λ i k l b.
          ⊎_elim
          (λ (e : i ≡ a). subst (λ j. has now (to + 4 * j) k ≡ has ws (at.rows + 4 * get_or ws (at.firsts + j) 0) k) (sym e) (row_copied k b))
          (λ (ne : i ≡ a → ⊥).
          has_frame now us (to + 4 * i) k (word_stays (to + 4 * i + k / 64) (inl (let less : i < a = omega arith in omega arith)))
          ∙ s.copied i k (omega arith) b)
          (cases_eq i a);
      outside = λ k o. ⊎_elim (λ (l : k < to). word_stays k (inl (omega arith)) ∙ s.outside k (inl l)) (λ (l : to + 4 * (a + 1) ≤ k). word_stays k (inr (omega arith)) ∙ s.outside k (inr (omega arith))) o;
    }
