-- The modules of one atom have the same bits, and those are the atom's.
use Rattle.std.proofs.Common.{◌≡◌, ℕ, ◌<◌, ◌≤◌, true, false, ◌&&◌, Some, Decides, sym, ◌∙◌, ⊎_elim, arith}
use Rattle.std.proofs.lemmas.Bool.{cases_Bool, cases_lt}
use Rattle.std.proofs.lemmas.Bool.Decides.{same_from_decides, Decides-and}
use Rattle.tables.specs.Below.{is}
use Rattle.tables.specs.View.{View, module_count, entry_count}
use Rattle.definitions.specs.Bits.{has, atom, atoms, whole}
use Rattle.definitions.proofs.Below.{some_below_decides}
use Rattle.definitions.proofs.Bits.{has_below}
use Rattle.definitions.proofs.Classes.{is_decides, class_in, class_equal, class_like, class_some}

module _ (t : View) where
  pub atom_below : (m a : ℕ) → atom t m ≡ Some a → (m < module_count t) × (a < atoms t)
  unfolding atoms atom
  atom_below m a h = let q = class_in (module_count t) (entry_count t) (has t) m a h in ((has_below t m q.bit q.has_bit).0, q.within)

  -- a module of an atom has an entry
  pub atom_bit : (m a : ℕ) → atom t m ≡ Some a → (e : ℕ) × (e < entry_count t) × (has t m e ≡ true)
  unfolding atom
  atom_bit m a h = let q = class_in (module_count t) (entry_count t) (has t) m a h in (q.bit, (has_below t m q.bit q.has_bit).1, q.has_bit)

  -- modules of one atom have the same entries
  pub atom_equal : (m k a : ℕ) → atom t m ≡ Some a → atom t k ≡ Some a → (e : ℕ) → has t m e ≡ has t k e
  unfolding atom
  atom_equal m k a p q e =
      ⊎_elim (λ l. class_equal (module_count t) (entry_count t) (has t) m k a p q e l)
      (λ l. none m l ∙ sym (none k l)) (cases_lt e (entry_count t))
    where
      none : (m : ℕ) → entry_count t ≤ e → has t m e ≡ false
      none m l = ⊎_elim (λ h. let b = (has_below t m e h).1 in absurd (omega arith)) (λ h. h) (cases_Bool (has t m e))

  -- modules with the same entries are in one atom
  pub atom_like : (m k : ℕ) → ((e : ℕ) → e < entry_count t → has t m e ≡ has t k e) → atom t m ≡ atom t k
  unfolding atom
  atom_like m k h = class_like (module_count t) (entry_count t) (has t) m k h

  -- a module with an entry is in an atom
  pub atom_some : (m e : ℕ) → has t m e ≡ true → (a : ℕ) × (atom t m ≡ Some a)
  unfolding atom
  atom_some m e h =
      let b = has_below t m e h in
      let c = class_some (module_count t) (entry_count t) (has t) m e b.0 b.1 h in
      c

  pub whole_decides : (a e : ℕ) → Decides (whole t a e) ((m : ℕ) × (m < module_count t) × ((atom t m ≡ Some a) × (has t m e ≡ true)))
  unfolding whole
  whole_decides a e =
      some_below_decides (λ m. is (atom t m) a && has t m e) (λ m. (atom t m ≡ Some a) × (has t m e ≡ true))
      (λ m. Decides-and _ _ (is_decides (atom t m) a) (λ x. x, λ x. x)) (module_count t)

  -- an atom has the bits of each of its modules
  pub whole_has : (m a e : ℕ) → atom t m ≡ Some a → whole t a e ≡ has t m e
  whole_has m a e h =
      same_from_decides (whole t a e) (has t m e) (whole_decides a e)
      (λ x. (m, (atom_below m a h).0, (h, x)), λ q. atom_equal m q.0 a h q.2.0 e ∙ q.2.1)
