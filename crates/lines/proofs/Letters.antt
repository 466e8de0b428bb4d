-- A line that is read has the letter that it begins with.
use Rattle.std.proofs.Common.{◌≡◌, ℕ, eqb, List, ◌∷◌, Ok, Err, Result, sym, refl, subst, cond}
use Rattle.std.proofs.lemmas.Bool.{cond_both, eqb-true}
use Rattle.lines.specs.Field.{bind, number, optional, bit, name, ended}
use Rattle.lines.specs.Lines.{LineValue, line_of, item, table_line, module_line, number_line, export_line, partial_line, entry_line, site_line, symbol_line}

-- the line that was read, if it was, has the letter k
abbrev Has : ℕ → Result LineValue ℕ → Type 0
Has k (Ok v) = v.kind ≡ k
Has k (Err c) = Unit {0}

through : {A : Type 0} (k : ℕ) (s : Result A ℕ) (f : A → Result LineValue ℕ) → ((a : A) → Has k (f a)) → Has k (bind s f)
through k (Ok a) f h = h a
through k (Err c) f h = tt

branch : (k n : ℕ) (r rest : Result LineValue ℕ) → Has n r → Has k rest → Has k (cond (eqb k n) r rest)
branch k n r rest here there = cond_both (eqb k n) r rest (Has k) (λ e. subst (λ m. Has m r) (sym (eqb-true k n e)) here) (λ _. there)

module _ (l : List ℕ) where
  table_has : Has 84 (table_line l)
  table_has =
      through 84 (number l 0) _ (λ m. through 84 (number l 6) _ (λ e. through 84 (number l 12) _ (λ s. through 84 (optional l 18) _ (λ r.
      through 84 (bit l 24) _ (λ t. through 84 (ended l 30) _ (λ _. refl))))))

  module_has : Has 77 (module_line l)
  module_has =
      through 77 (number l 0) _ (λ f. through 77 (optional l 6) _ (λ n. through 77 (optional l 12) _ (λ w. through 77 (number l 18) _ (λ k.
      through 77 (ended l 24) _ (λ _. refl)))))

  number_has : (k : ℕ) → Has k (number_line k l)
  number_has k = through k (item l) _ (λ d. refl)

  export_has : Has 88 (export_line l)
  export_has = through 88 (number l 0) _ (λ s. through 88 (bit l 6) _ (λ c. through 88 (name l 12) _ (λ n. refl)))

  partial_has : Has 80 (partial_line l)
  partial_has = through 80 (name l 0) _ (λ n. refl)

  entry_has : Has 69 (entry_line l)
  entry_has = through 69 (number l 0) _ (λ m. through 69 (number l 6) _ (λ f. through 69 (ended l 12) _ (λ _. refl)))

  site_has : Has 73 (site_line l)
  site_has = through 73 (number l 0) _ (λ i. through 73 (optional l 6) _ (λ r. through 73 (number l 12) _ (λ f. through 73 (ended l 18) _ (λ _. refl))))

  symbol_has : Has 83 (symbol_line l)
  symbol_has =
      through 83 (number l 0) _ (λ o. through 83 (number l 6) _ (λ k. through 83 (optional l 12) _ (λ a. through 83 (number l 18) _ (λ f.
      through 83 (ended l 24) _ (λ _. refl)))))

  line_has : (k : ℕ) → Has k (line_of (k ∷ l))
  line_has k =
      branch k 84 _ _ table_has (branch k 77 _ _ module_has (branch k 76 _ _ (number_has 76) (branch k 68 _ _ (number_has 68)
      (branch k 82 _ _ (number_has 82) (branch k 85 _ _ (number_has 85) (branch k 88 _ _ export_has (branch k 80 _ _ partial_has
      (branch k 69 _ _ entry_has (branch k 73 _ _ site_has (branch k 83 _ (Err 1) symbol_has tt))))))))))

pub kind_read : (k : ℕ) (l : List ℕ) (v : LineValue) → line_of (k ∷ l) ≡ Ok v → v.kind ≡ k
kind_read k l v e = subst (Has k) e (line_has l k)
