-- Marks that spread from the nodes in slots, one after the other.
use Rattle.std.proofs.Common.{◌≡◌, ℕ, ◌+◌, ◌<◌, ◌≤◌, Bool, true, false, List, Some, None, Option, sym, ap, ◌∙◌, subst, ⊎_elim, arith}
use Rattle.std.proofs.lemmas.Option.{none-some, same_Some}
use Rattle.std.proofs.lemmas.Bool.{cases_eq, cases_lt, both_ways}
use Rattle.reach.specs.Paths.{Way, here, step, Closed, Reached}
use Rattle.reach.specs.Shape.{Shape, Edge}
use Rattle.reach.proofs.Walks.{reached_closed}

-- of the n nodes those are marked that a path leads to from a node in the first i slots
pub record Spread (edge : ℕ → ℕ → Type 0) (n : ℕ) (slot : ℕ → Option ℕ) (i : ℕ) (mark : ℕ → Bool) : Type 0 where
  pub closed : Closed edge mark
  pub full : (j w u : ℕ) → j < i → slot j ≡ Some w → Way edge w u → mark u ≡ true
  pub sound : (u : ℕ) → u < n → mark u ≡ true → (j : ℕ) × (w : ℕ) × (j < i) × (slot j ≡ Some w) × Way edge w u

-- no node is marked
pub spread_none : (edge : ℕ → ℕ → Type 0) (n : ℕ) (slot : ℕ → Option ℕ) (mark : ℕ → Bool) → ((v w : ℕ) → edge v w → v < n)
    → ((u : ℕ) → u < n → mark u ≡ false) → Spread edge n slot 0 mark
spread_none edge n slot mark nodes none = record {
  closed = λ v w h e. absurd (both_ways (mark v) (none v (nodes v w e)) h);
  full = λ j w u l. absurd (omega arith);
  sound = λ u l h. absurd (both_ways (mark u) (none u l) h);
}

module _ {edge : ℕ → ℕ → Type 0} {n : ℕ} {slot : ℕ → Option ℕ} {i : ℕ} {mark : ℕ → Bool} (f : Spread edge n slot i mark) where
  -- slot k holds w, and the slots from i to it are empty
  pub spread_next : {k w : ℕ} {mark' : ℕ → Bool} → i ≤ k → ((j : ℕ) → i ≤ j → j < k → slot j ≡ None) → slot k ≡ Some w
      → Reached edge w mark mark' → Spread edge n slot (k + 1) mark'
  spread_next {k} {w} after empty is r = record {
    closed = reached_closed f.closed r;
    full = λ j x u l at p.
        ⊎_elim (λ (e : j ≡ k). r.full u (subst (λ y. Way edge y u) (same_Some x w (sym at ∙ ap slot e ∙ is)) p))
        (λ (ne : j ≡ k → ⊥).
        ⊎_elim (λ (b : j < i). r.kept u (f.full j x u b at p))
        (λ (b : i ≤ j). absurd (none-some x (sym (empty j b (omega arith)) ∙ at))) (cases_lt j i)) (cases_eq j k);
    sound = λ u small h.
        ⊎_elim (λ o. let s = f.sound u small o in (s.0, s.1, omega (arith, s.2), s.3, s.4))
        (λ p. (k, w, omega arith, is, p)) (r.sound u h);
  }

  -- the slots from i on are empty
  pub spread_all : (m : ℕ) → ((j : ℕ) → i ≤ j → j < m → slot j ≡ None) → (j w u : ℕ) → j < m → slot j ≡ Some w → Way edge w u → mark u ≡ true
  spread_all m empty j w u h is p =
      ⊎_elim (λ (b : j < i). f.full j w u b is p) (λ (b : i ≤ j). absurd (none-some w (sym (empty j b h) ∙ is))) (cases_lt j i)

-- a path stays among the nodes
pub way_inside : (s : Shape) (ws : List ℕ) {w v : ℕ} → w < s.nodes → Way (Edge s ws) w v → v < s.nodes
way_inside s ws h here = h
way_inside s ws h (step {v = v} {w = w} p e) = s.inside _ v e.index w e.below e.holds
