-- The steps of a walk, over any graph.
use Rattle.std.proofs.Common.{◌≡◌, ℕ, ◌+◌, ◌<◌, ◌≤◌, Bool, true, false, ◌⊎◌, List, length, get_or, set, Some, None, Option, sym, refl, ap, ◌∙◌, subst, subst₂, inl, inr, ⊎_elim, arith}
use mathlib.Core.Path.{subst₃}
use Rattle.std.proofs.lemmas.List.{get_or-set_same, get_or-set_other}
use Rattle.std.proofs.lemmas.Option.{none-some, same_Some}
use Rattle.std.proofs.lemmas.Bool.{cases_eq, cases_lt, cases_Bool, both_ways}
use Rattle.std.proofs.lemmas.Bool.Decides.{when_true, when_false}
use Rattle.rows.specs.Bits.{count}
use Rattle.rows.proofs.Counts.{count_room, count_one_more}
use Rattle.reach.specs.Paths.{Way, here, step, Closed, Reached}
use Rattle.reach.specs.Walk.{Waits, State, OneMore, Found, Goes, Looked}

-- ---- a closed set of marks

pub closed_full : {edge : ℕ → ℕ → Type 0} {start v : ℕ} (mark : ℕ → Bool) → Closed edge mark → mark start ≡ true → Way edge start v → mark v ≡ true
closed_full mark closed h here = h
closed_full mark closed h (step p e) = closed _ _ (closed_full mark closed h p) e

-- a closed set that has the start, and of which each member has a path, is what can be reached
pub closed_reached : {edge : ℕ → ℕ → Type 0} (start : ℕ) (old mark : ℕ → Bool) → Closed edge mark → mark start ≡ true
    → ((v : ℕ) → old v ≡ true → mark v ≡ true) → ((v : ℕ) → mark v ≡ true → (old v ≡ true) ⊎ Way edge start v) → Reached edge start old mark
closed_reached start old mark closed h kept sound = record { kept = kept; full = λ v p. closed_full mark closed h p; sound = sound }

-- what can be reached is closed
pub reached_closed : {edge : ℕ → ℕ → Type 0} {start : ℕ} {old mark : ℕ → Bool} → Closed edge old → Reached edge start old mark → Closed edge mark
reached_closed closed r v w h e =
    ⊎_elim (λ o. r.kept w (closed v w o e)) (λ p. r.full w (step p e)) (r.sound v h)

-- ---- one mark more

grows : (mark mark' : ℕ → Bool) (w : ℕ) → OneMore mark w mark' → (u : ℕ) → mark u ≡ true → mark' u ≡ true
grows mark mark' w m u h = ⊎_elim (λ (e : u ≡ w). ap mark' e ∙ m.new) (λ (ne : u ≡ w → ⊥). m.others u ne ∙ h) (cases_eq u w)

-- what it has is w, or mark has it
new_or_old : (mark mark' : ℕ → Bool) (w : ℕ) → OneMore mark w mark' → (u : ℕ) → mark' u ≡ true → (u ≡ w) ⊎ (mark u ≡ true)
new_or_old mark mark' w m u h = ⊎_elim inl (λ (ne : u ≡ w → ⊥). inr (sym (m.others u ne) ∙ h)) (cases_eq u w)

-- ---- the steps, over any marks

abbrev Sits : ℕ → (ℕ → Bool) → ℕ → Type 0
Sits n mark x = (x < n) × (mark x ≡ true)

module _ (edge : ℕ → ℕ → Type 0) (n : ℕ) (old : ℕ → Bool) (closed : Closed edge old) (start : ℕ) where
  -- the first node
  pub begins : (mark : ℕ → Bool) (queue : List ℕ) → start < n → old start ≡ false → OneMore old start mark → 0 < length queue
      → State edge n old start mark (set queue 0 start) 0 1 None
  begins mark queue h new m room =
      let at : get_or (set queue 0 start) 0 0 ≡ start = get_or-set_same queue 0 start 0 room in
      record {
        order = omega arith;
        began = m.new;
        kept = grows old mark start m;
        sound = λ u h. ⊎_elim (λ (e : u ≡ start). inr (subst (Way edge start) (sym e) here)) inl (new_or_old old mark start m u h);
        queued = λ k l. let z : k ≡ 0 = omega arith in subst (Sits n mark) (sym (ap (λ j. get_or (set queue 0 start) j 0) z ∙ at)) (h, m.new);
        looked = λ u b. absurd (none-some u b);
        done = λ u h. ⊎_elim (λ (e : u ≡ start). inl (0, omega arith, omega arith, at ∙ sym e))
            (λ (o : old u ≡ true). inr (inr (λ w e. grows old mark start m w (closed u w o e)))) (new_or_old old mark start m u h);
      }

  -- nothing to do: the start is marked
  pub begun : (queue : List ℕ) → old start ≡ true → State edge n old start old queue 0 0 None
  begun queue h = record {
    order = omega arith;
    began = h;
    kept = λ u o. o;
    sound = λ u o. inl o;
    queued = λ k l. absurd (omega arith);
    looked = λ u b. absurd (none-some u b);
    done = λ u o. inr (inr (λ w e. closed u w o e));
  }

  -- the next node of the queue is looked at
  pub takes : (mark : ℕ → Bool) (queue : List ℕ) (head tail : ℕ) → head < tail → State edge n old start mark queue head tail None
      → State edge n old start mark queue (head + 1) tail (Some (get_or queue head 0))
  takes mark queue head tail h s = record {
    order = omega arith;
    began = s.began;
    kept = s.kept;
    sound = s.sound;
    queued = s.queued;
    looked = λ u b. ap mark (sym (same_Some _ u b)) ∙ (s.queued head h).1;
    done = λ u m.
        ⊎_elim
        (λ (x : Waits queue head tail u).
        ⊎_elim (λ (e : x.0 ≡ head). inr (inl (ap Some (sym (ap (λ j. get_or queue j 0) e) ∙ x.3))))
        (λ (ne : x.0 ≡ head → ⊥). inl (x.0, omega arith, x.2, x.3)) (cases_eq x.0 head))
        (⊎_elim (λ b. absurd (none-some u b)) (λ d. inr (inr d))) (s.done u m);
  }

  -- each node that it leads to is marked
  pub leaves : (mark : ℕ → Bool) (queue : List ℕ) (head tail v : ℕ) → State edge n old start mark queue head tail (Some v)
      → ((w : ℕ) → edge v w → mark w ≡ true) → State edge n old start mark queue head tail None
  leaves mark queue head tail v s all = record {
    order = s.order;
    began = s.began;
    kept = s.kept;
    sound = s.sound;
    queued = s.queued;
    looked = λ u b. absurd (none-some u b);
    done = λ u m. ⊎_elim inl (⊎_elim (λ (b : Some v ≡ Some u). inr (inr (λ w e. all w (subst (λ x. edge x w) (sym (same_Some _ u b)) e)))) (λ d. inr (inr d))) (s.done u m);
  }

  -- one node is found
  pub pushes : (mark mark' : ℕ → Bool) (queue : List ℕ) (head tail v w : ℕ) → edge v w → w < n → mark w ≡ false → OneMore mark w mark' → tail < length queue
      → State edge n old start mark queue head tail (Some v) → State edge n old start mark' (set queue tail w) head (tail + 1) (Some v)
  pushes mark mark' queue head tail v w e small new m room s =
      let grow = grows mark mark' w m in
      let at : get_or (set queue tail w) tail 0 ≡ w = get_or-set_same queue tail w 0 room in
      let other : (k : ℕ) → k < tail → get_or (set queue tail w) k 0 ≡ get_or queue k 0 = λ k l. get_or-set_other queue tail k w 0 (omega arith) in
      record {
        order = omega (arith, s.order);
        began = grow start s.began;
        kept = λ u o. grow u (s.kept u o);
        sound = λ u h.
            ⊎_elim
            (λ (q : u ≡ w). subst (λ x. (old x ≡ true) ⊎ Way edge start x) (sym q)
            (⊎_elim (λ (o : old v ≡ true). absurd (both_ways (mark w) new (s.kept w (closed v w o e)))) (λ p. inr (step p e)) (s.sound v (s.looked v refl))))
            (s.sound u) (new_or_old mark mark' w m u h);
        queued = λ k l.
            ⊎_elim (λ (q : k ≡ tail). subst (Sits n mark') (sym (ap (λ j. get_or (set queue tail w) j 0) q ∙ at)) (small, m.new))
            (λ (ne : k ≡ tail → ⊥).
            let l' : k < tail = omega arith in
            let sat = s.queued k l' in
            subst (Sits n mark') (sym (other k l')) (sat.0, grow _ sat.1))
            (cases_eq k tail);
        looked = λ u b. grow u (s.looked u b);
        done = λ u h.
            ⊎_elim (λ (q : u ≡ w). inl (tail, s.order, omega arith, at ∙ sym q))
            (λ (o : mark u ≡ true).
            ⊎_elim (λ (x : Waits queue head tail u). inl (x.0, x.1, omega arith, other x.0 x.2 ∙ x.3))
            (⊎_elim (λ b. inr (inl b)) (λ d. inr (inr (λ w' e'. grow w' (d w' e'))))) (s.done u o))
            (new_or_old mark mark' w m u h);
      }

  -- nothing waits
  pub ends : (mark : ℕ → Bool) (queue : List ℕ) (head tail : ℕ) → tail ≤ head → State edge n old start mark queue head tail None → Reached edge start old mark
  ends mark queue head tail h s =
      closed_reached start old mark
      (λ v w m e. ⊎_elim (λ (x : Waits queue head tail v). absurd (omega arith)) (⊎_elim (λ b. absurd (none-some v b)) (λ d. d w e)) (s.done v m))
      s.began s.kept s.sound

-- ---- what `find` does

-- its two ways
module _ {mark : ℕ → Bool} {queue : List ℕ} {tail w : ℕ} {mark' : ℕ → Bool} {queue' : List ℕ} {tail' : ℕ} (f : Found mark queue tail w mark' queue' tail') where
  found : (P : (ℕ → Bool) → List ℕ → ℕ → Type 0) → (mark w ≡ true → P mark queue tail)
      → (mark w ≡ false → OneMore mark w mark' → P mark' (set queue tail w) (tail + 1)) → P mark' queue' tail'
  found P was new =
      ⊎_elim
      (λ (h : mark w ≡ true). let e = when_true _ _ h f.how in subst₃ P (sym e.0) (sym e.1) (sym e.2) (was h))
      (λ (h : mark w ≡ false). let e = when_false _ _ h f.how in subst₂ (P mark') (sym e.1) (sym e.2) (new h e.0))
      (cases_Bool (mark w))

  pub found_marked : mark' w ≡ true
  found_marked = found (λ ms _ _. ms w ≡ true) (λ h. h) (λ _ m. m.new)

  pub found_grows : (u : ℕ) → mark u ≡ true → mark' u ≡ true
  found_grows u h = found (λ ms _ _. ms u ≡ true) (λ _. h) (λ _ m. grows _ _ w m u h)

  -- as many nodes stand in the queue as are marked, at most
  pub found_few : (n : ℕ) → w < n → tail ≤ count mark n → tail' ≤ count mark' n
  found_few n small few =
      found (λ ms _ t. t ≤ count ms n) (λ _. few)
      (λ new m. omega (arith, count_one_more _ _ n w small new m.new m.others))

  pub found_goes : (edge : ℕ → ℕ → Type 0) (n v head : ℕ) → edge v w → w < n → n ≤ length queue → tail ≤ count mark n
      → Goes edge n mark queue head tail (Some v) mark' queue' head tail' (Some v)
  found_goes edge n v head e small room few = record {
    goes = λ old start closed s.
        found (λ ms q t. State edge n old start ms q head t (Some v)) (λ _. s)
        (λ new m. pushes edge n old closed start _ _ queue head tail v w e small new m
        (omega (arith, count_room mark n w small new)) s);
  }

pub found_begins : {mark : ℕ → Bool} {queue : List ℕ} {mark' : ℕ → Bool} {queue' : List ℕ} {start tail' : ℕ} (edge : ℕ → ℕ → Type 0) (n : ℕ) → Closed edge mark
    → start < n → n ≤ length queue → Found mark queue 0 start mark' queue' tail'
    → State edge n mark start mark' queue' 0 tail' None
found_begins {mark} {queue} {start = start} edge n closed small room f =
    found f (λ ms q t. State edge n mark start ms q 0 t None)
    (begun edge n mark closed start queue)
    (λ new m. begins edge n mark closed start _ queue small new m (omega arith))

-- ---- the loop over the slots of a node

pub goes_none : (edge : ℕ → ℕ → Type 0) (n : ℕ) (mark : ℕ → Bool) (queue : List ℕ) (head tail : ℕ) (busy : Option ℕ) → Goes edge n mark queue head tail busy mark queue head tail busy
goes_none edge n mark queue head tail busy = record { goes = λ old start closed s. s }

pub looked_none : (edge : ℕ → ℕ → Type 0) (n v : ℕ) (slot : ℕ → Option ℕ) (mark : ℕ → Bool) (queue : List ℕ) (tail : ℕ) → tail ≤ count mark n
    → Looked edge n v slot mark queue tail 0 mark queue tail
looked_none edge n v slot mark queue tail few = record {
  few = few;
  full = λ j w l. absurd (omega arith);
  goes = λ head. goes_none edge n mark queue head tail (Some v);
}

module _ {edge : ℕ → ℕ → Type 0} {n v : ℕ} {slot : ℕ → Option ℕ} {mark₀ : ℕ → Bool} {queue₀ : List ℕ} {tail₀ i : ℕ} {mark : ℕ → Bool} {queue : List ℕ} {tail : ℕ}
    (l : Looked edge n v slot mark₀ queue₀ tail₀ i mark queue tail) where
  -- slot k is filled, and the slots from i to it are empty
  pub looked_next : {k w : ℕ} {mark' : ℕ → Bool} {queue' : List ℕ} {tail' : ℕ} → Found mark queue tail w mark' queue' tail'
      → ((j : ℕ) → i ≤ j → j < k → slot j ≡ None) → slot k ≡ Some w → edge v w → w < n
      → n ≤ length queue → Looked edge n v slot mark₀ queue₀ tail₀ (k + 1) mark' queue' tail'
  looked_next {k} {w} {mark'} f empty is e small room = record {
    few = found_few f n small l.few;
    full = λ j u h at.
        ⊎_elim (λ (q : j ≡ k). subst (λ x. mark' x ≡ true) (same_Some w u (sym is ∙ ap slot (sym q) ∙ at)) (found_marked f))
        (λ (ne : j ≡ k → ⊥).
        ⊎_elim (λ (b : j < i). found_grows f u (l.full j u b at))
        (λ (b : i ≤ j). absurd (none-some u (sym (empty j b (omega arith)) ∙ at))) (cases_lt j i)) (cases_eq j k);
    goes = λ head. record {
      goes = λ old start closed s.
          (found_goes f edge n v head e small room l.few).goes old start closed ((l.goes head).goes old start closed s);
    };
  }

  -- the slots from i on are empty
  pub looked_all : (m : ℕ) → ((j : ℕ) → i ≤ j → j < m → slot j ≡ None) → (j w : ℕ) → j < m → slot j ≡ Some w → mark w ≡ true
  looked_all m empty j w h is =
      ⊎_elim (λ (b : j < i). l.full j w b is) (λ (b : i ≤ j). absurd (none-some w (sym (empty j b h) ∙ is))) (cases_lt j i)

-- ---- the loop over the queue

-- the next node of the queue is looked at, and each node that an edge leads to from it is marked
pub walk_on : {edge : ℕ → ℕ → Type 0} {n : ℕ} {old : ℕ → Bool} {start : ℕ} {mark : ℕ → Bool} {queue : List ℕ} {head tail : ℕ} {mark' : ℕ → Bool} {queue' : List ℕ} {tail' : ℕ}
    → Closed edge old → head < tail → State edge n old start mark queue head tail None
    → Goes edge n mark queue (head + 1) tail (Some (get_or queue head 0)) mark' queue' (head + 1) tail' (Some (get_or queue head 0))
    → ((w : ℕ) → edge (get_or queue head 0) w → mark' w ≡ true)
    → State edge n old start mark' queue' (head + 1) tail' None
walk_on {edge} {n} {old} {start} {queue = queue} {head = head} {tail = tail} closed h s visited full =
    leaves edge n old closed start _ _ (head + 1) _ (get_or queue head 0)
    (visited.goes old start closed (takes edge n old closed start _ queue head tail h s)) full
