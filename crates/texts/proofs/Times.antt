-- As many things as said, one at a time.
use Rattle.std.proofs.Common.{◌≡◌, ℕ, suc, ◌+◌, ◌-◌, ◌<◌, ◌≤◌, List, [], ◌∷◌, ◌++◌, map, Ok, Err, sym, ap, ◌∙◌, arith}
use Rattle.std.proofs.lemmas.List.{append-nil}
use Rattle.texts.specs.declared.unreadable.Unreadable.{Unreadable}
use Rattle.texts.specs.declared.unreadable.Unreadable.TheVariants.{Memory, Form}
use Rattle.texts.specs.Exact.{Exactly}
use Rattle.lines.specs.Field.{bind}
use Rattle.texts.specs.Form.{At, Step, times}
use Rattle.texts.proofs.Parts.{pushed, pushed_step, pushed_row}

module _ {A : Type 0} (f : At → Step A) where
  pub times_stop : (n i : ℕ) (p : At) (olds : List A) (all : Step (List A)) → n ≤ i → pushed olds (times f (n - i) p) ≡ all → all ≡ Ok (olds, p)
  times_stop n i p olds all le inv =
      let none : n - i ≡ 0 = omega arith in
      sym inv ∙ ap (λ m. pushed olds (times f m p)) none ∙ ap (λ l. Ok (l, p)) (append-nil olds)

  one_more : (n i : ℕ) (p : At) (olds : List A) (r : Step A) → i < n → f p ≡ r →
      pushed olds (times f (n - i) p) ≡ bind r (λ a. pushed (olds ++ a.0 ∷ []) (times f (n - (i + 1)) a.1))
  one_more n i p olds r lt h =
      let same : n - i ≡ suc (n - (i + 1)) = omega arith in
      ap (λ m. pushed olds (times f m p)) same ∙ pushed_step olds (f p) (times f (n - (i + 1)))
      ∙ ap (λ s. bind s (λ a. pushed (olds ++ a.0 ∷ []) (times f (n - (i + 1)) a.1))) h

  -- a fault of one thing is the fault of all
  pub times_exit : {U V : Type 0} (k : U → A) (l : V → List A) (n i : ℕ) (p q t : At) (olds : List A) (all : Step (List A)) (e : Unreadable) → i < n →
      pushed olds (times f (n - i) p) ≡ all → Exactly k (Err e) q (f p) → Exactly l (Err e) t all
  times_exit k l n i p q t olds all Memory lt inv h = tt
  times_exit k l n i p q t olds all (Form x) lt inv h = sym inv ∙ one_more n i p olds (Err x) lt h

  -- one thing more, by its value
  pub times_more : {R : Type 0} (g : R → A) (n i : ℕ) (p q : At) (olds news : List R) (x : R) (all : Step (List A)) → i < n →
      pushed (map g olds) (times f (n - i) p) ≡ all → f p ≡ Ok (g x, q) → news ≡ olds ++ x ∷ [] → pushed (map g news) (times f (n - (i + 1)) q) ≡ all
  times_more g n i p q olds news x all lt inv h grown =
      sym (pushed_row g olds news x (times f (n - (i + 1)) q) grown) ∙ sym (one_more n i p (map g olds) (Ok (g x, q)) lt h) ∙ inv

-- the steps of a loop that reads as many things as said
pub ruleset reading_times = (times_more, times_stop, times_exit)
