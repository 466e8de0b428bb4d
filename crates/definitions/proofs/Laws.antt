-- The laws of specs/Laws.
use Rattle.std.proofs.Common.{◌≡◌, ℕ, ◌<◌, true, false, ◌↔◌, Some, None, Option, sym, refl, ap, ◌∙◌, ⊎_elim, arith}
use Rattle.std.proofs.lemmas.Bool.{cases_Bool}
use Rattle.tables.specs.View.{View, entry_count}
use Rattle.definitions.specs.Bits.{has, atom}
use Rattle.definitions.specs.Cover.{loads, covered}
use Rattle.definitions.specs.Plan.{accepted, decided, chunks_cyclic, has_after}
use Rattle.definitions.specs.Laws.{TestsAgree, Decisions}
use Rattle.definitions.proofs.Bits.{has_decides}
use Rattle.definitions.proofs.Atoms.{atom_equal, atom_like, atom_some, atom_bit}
use Rattle.definitions.proofs.Loads.{loads_decides}
use Rattle.definitions.proofs.Cover.{covered_decides}
use Rattle.definitions.proofs.Plan.{chunks_cyclic_decides, accepted_exactly, decided_at, decided_others, going_on, losing, gaining}

one_atom : (t : View) (m k e : ℕ) → has t m e ≡ true → (atom t m ≡ atom t k) ↔ ((i : ℕ) → i < entry_count t → has t m i ≡ has t k i)
one_atom t m k e h = (λ p i l. let a = atom_some t m e h in atom_equal t m k a.0 a.1 (sym p ∙ a.1) i, atom_like t m k)

-- a module without an atom has no entry
no_atom : (t : View) (m : ℕ) → (atom t m ≡ None) ↔ ((i : ℕ) → i < entry_count t → has t m i ≡ false)
no_atom t m = (none, all)
  where
    none : atom t m ≡ None → (i : ℕ) → i < entry_count t → has t m i ≡ false
    none p i l =
        ⊎_elim (λ h. let a = atom_some t m i h in let q = a.1 in let z : ◌≡◌ {A = ℕ} 0 1 = cc in absurd (omega arith)) (λ h. h) (cases_Bool (has t m i))

    all : ((i : ℕ) → i < entry_count t → has t m i ≡ false) → atom t m ≡ None
    all empty = go (atom t m) refl
      where
        go : (o : Option ℕ) → atom t m ≡ o → o ≡ None
        go None e = refl
        go (Some a) e = let q = atom_bit t m a e in let f = empty q.0 q.1 in let h = q.2 in let z : ◌≡◌ {A = ℕ} 0 1 = cc in absurd (omega arith)

pub tests_agree : TestsAgree has atom loads covered chunks_cyclic
tests_agree = record {
  entries = has_decides;
  one_atom = one_atom;
  no_atom = no_atom;
  loading = loads_decides;
  covering = covered_decides;
  cycles = chunks_cyclic_decides;
}

pub decisions : Decisions decided has_after
decisions = record {
  exactly = λ t veto before after a h.
      let e = ap accepted (decided_at t veto before after a h) in
      let q = accepted_exactly t veto (decided t veto before) a in
      (λ x. q.0 (sym e ∙ x), λ m. e ∙ q.1 m);
  others = decided_others;
  going_on = going_on;
  losing = losing;
  gaining = gaining;
}
