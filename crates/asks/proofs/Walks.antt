-- The walk along a chain of links.
use Rattle.std.proofs.Common.{◌≡◌, ℕ, zero, suc, ◌+◌, ◌-◌, ◌<◌, ◌≤◌, eqb, Bool, true, false, not, length, if◌then◌else◌, Some, None, Option, sym, refl, ap, ◌∙◌, arith}
use Rattle.std.proofs.lemmas.Bool.{eq-eqb}
use Rattle.tables.specs.Value.{Table}
use Rattle.tables.specs.View.{View, view, symbol_at}
use Rattle.tables.specs.Links.{linked, canon, endless}
use Rattle.asks.specs.Walked.{ends_within}

module _ (t : View) (links : ℕ) where
  -- after `done` links of all, what is left leads where the whole walk from s leads
  abbrev pub Walk : ℕ → ℕ → ℕ → Type 0
  Walk s done at = linked t (links - done) at ≡ linked t links s

  pub walk_begins : (s : ℕ) → Walk s 0 s
  walk_begins s = let k : links - 0 ≡ links = omega arith in ap (λ j. linked t j s) k

  pub walk_on : (s done at link : ℕ) → done < links → Walk s done at → link ≡ (symbol_at t at).link → Walk s (done + 1) link
  unfolding linked
  walk_on s done at link lt w e =
      let k : links - done ≡ suc (links - (done + 1)) = omega arith in
      ap (linked t (links - (done + 1))) e ∙ sym (ap (λ j. linked t j at) k) ∙ w

  stays : (k s : ℕ) → (symbol_at t s).link ≡ s → linked t k s ≡ s
  unfolding linked
  stays zero s e = refl
  stays (suc k) s e = ap (linked t k) e ∙ stays k s e

  pub walk_ends : (s done at : ℕ) → Walk s done at → at ≡ (symbol_at t at).link → at ≡ linked t links s
  walk_ends s done at w e = sym (stays (links - done) at (sym e)) ∙ w

  pub walk_over : (s done at : ℕ) → links ≤ done → Walk s done at → at ≡ linked t links s
  unfolding linked
  walk_over s done at le w = let k : 0 ≡ links - done = omega arith in ap (λ j. linked t j at) k ∙ w

module _ (t : View) (links s at link : ℕ) (is : at ≡ linked t links s) (e : link ≡ (symbol_at t at).link) where
  -- what the symbol at which a walk stops says of it
  pub ends_told : eqb link at ≡ ends_within t links s
  unfolding ends_within
  ends_told = ap (λ n. eqb n at) e ∙ ap (λ q. eqb (symbol_at t q).link q) is

  pub ends_here : link ≡ at → true ≡ ends_within t links s
  ends_here h = sym (eq-eqb link at h) ∙ ends_told

-- a walk over as many links as there are symbols
module _ (t : Table) (n s at : ℕ) (count : n ≡ length t.symbols) (is : at ≡ linked (view t) n s) where
  pub canon_told : at ≡ canon (view t) s
  unfolding canon view
  canon_told = is ∙ ap (λ k. linked (view t) k s) count

  either : (b : Bool) (x : Option ℕ) → (if b then x else None) ≡ (if not b then None else x)
  either true x = refl
  either false x = refl

  pub end_told : (ends : Bool) (r : Option ℕ) → ends ≡ ends_within (view t) n s → r ≡ (if ends then Some at else None) →
      r ≡ (if endless (view t) s then None else Some (canon (view t) s))
  unfolding endless ends_within canon view
  end_told ends r e told =
      told ∙ ap (λ q. if ends then Some q else None) canon_told
      ∙ ap (λ b. if b then Some (canon (view t) s) else None) (e ∙ ap (λ k. ends_within (view t) k s) count)
      ∙ either (ends_within (view t) (length t.symbols) s) (Some (canon (view t) s))
