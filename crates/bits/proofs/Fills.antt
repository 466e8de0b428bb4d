-- One entry more in the rows.
use Rattle.std.proofs.Common.{◌≡◌, ℕ, ◌+◌, ◌-◌, ◌*◌, ◌/◌, ◌%◌, ◌<◌, ◌≤◌, false, List, length, get_or, Some, Decides, Option, sym, ap, ◌∙◌, subst, ap₂, ⊎_elim, arith, get_or-drop}
use Rattle.std.proofs.lemmas.Bool.{cases_eq, cases_Bool, both_ways}
use Rattle.std.proofs.lemmas.Bool.Decides.{same_from_decides}
use Rattle.tables.specs.Value.{Table}
use Rattle.rows.specs.Bits.{bit, has as has_bit}
use Rattle.reach.specs.Paths.{Way, Closed, Reached}
use Rattle.reach.specs.Shape.{Edge}
use Rattle.reach.specs.Memory.{bit_of, marked, Room, Frame, Ready}
use Rattle.reach.proofs.Parts.{has_marks}
use Rattle.tables.specs.View.{view}
use Rattle.definitions.specs.Bits.{has}
use Rattle.definitions.proofs.Bits.{has_decides}
use Rattle.loads.specs.Loading.{load_shape}
use Rattle.bits.specs.declared.ModuleRows.{ModuleRows}
use Rattle.bits.specs.Rows.{usable_root, column, Area, row_has, Filled}
use Rattle.bits.proofs.Leading.{root_inside, marked_has, none_has}

module _ (p : ModuleRows) (n len : ℕ) (area : Area p n len) (e : ℕ) (small : e < 256) where
  pub column_room : Room (column p e) n len
  column_room =
      let few = area.few in
      let order = area.order in
      let room = area.room in
      record { column = small; order = omega arith; marks = omega arith; small = omega arith; queue = omega arith }

  -- a bit of a row, as a bit of the marks
  row_bit : (ws : List ℕ) (m k : ℕ) → m < n → k < 256 → bit_of (column p e) ws (256 * m + k) ≡ row_has p ws m k
  unfolding bit_of has_bit
  row_bit ws m k l h =
      let order = area.order in
      let at : p.rows + (256 * m + k) / 64 ≡ p.rows + 4 * m + k / 64 = omega arith in
      let low : (256 * m + k) % 64 ≡ k % 64 = omega arith in
      has_marks ws p.rows p.queue (256 * m + k) (omega arith) ∙ ap₂ (λ i j. bit (get_or ws i 0) j) at low

  row_marked : (ws : List ℕ) (m : ℕ) → m < n → marked (column p e) ws m ≡ row_has p ws m e
  unfolding marked
  row_marked ws m l = row_bit ws m e l small

  row_other : (ws us : List ℕ) → Frame (column p e) n ws us → (m k : ℕ) → m < n → k < 256 → (k ≡ e → ⊥) → row_has p us m k ≡ row_has p ws m k
  row_other ws us frame m k l h ne = sym (row_bit us m k l h) ∙ frame.others (256 * m + k) (λ u b same. ne (omega arith)) ∙ row_bit ws m k l h

module _ (t : Table) (p : ModuleRows) (len : ℕ) (area : Area p (length t.modules) len) (e : ℕ) (small : e < 256) (ws vs : List ℕ) (f : Filled t p e ws vs) where
  none_marked : (m : ℕ) → m < length t.modules → marked (column p e) vs m ≡ false
  none_marked m l = row_marked p _ len area e small vs m l ∙ f.rest m e l (omega arith) small

  pub fill_closed : Closed (Edge (load_shape t) vs) (marked (column p e) vs)
  unfolding load_shape
  fill_closed v w h x = absurd (both_ways _ (none_marked v x.node) h)

  pub fill_ready : (r : ℕ) → usable_root t e ≡ Some r → length vs ≡ len → Ready (column p e) (load_shape t) (length vs) r
  unfolding load_shape
  fill_ready r is long = record {
    node = root_inside t e r is;
    limit = omega arith;
    room = subst (Room (column p e) (length t.modules)) (sym long) (column_room p _ len area e small);
  }

  pub fill_skip : e < length t.entries → ((r : ℕ) → usable_root t e ≡ Some r → ⊥) → Filled t p (e + 1) ws vs
  fill_skip there none = record {
    done = λ m k l h.
        ⊎_elim
        (λ (q : k ≡ e). ap (row_has p vs m) q ∙ f.rest m e l (omega arith) small ∙ sym (unset m) ∙ ap (has (view t) m) (sym q))
        (λ (ne : k ≡ e → ⊥). f.done m k l (omega arith)) (cases_eq k e);
    rest = λ m k l h. f.rest m k l (omega arith);
    front = f.front;
    between = f.between;
    behind = f.behind;
  }
    where
      unset : (m : ℕ) → has (view t) m e ≡ false
      unset m = ⊎_elim (λ h. absurd (none_has t m e none ((has_decides (view t) m e).0 h))) (λ h. h) (cases_Bool (has (view t) m e))

  pub fill_step : e < length t.entries → (r : ℕ) → usable_root t e ≡ Some r → (us : List ℕ)
      → Reached (Edge (load_shape t) vs) r (marked (column p e) vs) (marked (column p e) us)
      → Frame (column p e) (length t.modules) vs us → Filled t p (e + 1) ws us
  fill_step there r is us reached frame = record {
    done = λ m k l h.
        ⊎_elim
        (λ (q : k ≡ e). ap (row_has p us m) q ∙ now m l ∙ ap (has (view t) m) (sym q))
        (λ (ne : k ≡ e → ⊥). row_other p _ len area e small vs us frame m k l (omega arith) ne ∙ f.done m k l (omega arith)) (cases_eq k e);
    rest = λ m k l h b. row_other p _ len area e small vs us frame m k l b (omega arith) ∙ f.rest m k l (omega arith) b;
    front = λ k l. let order = area.order in frame.words k (omega arith) (λ u b q. omega arith) ∙ f.front k l;
    between = λ k l b. frame.words k b (λ u c q. omega arith) ∙ f.between k l b;
    behind = λ k l.
        let n = length t.modules in
        let at : p.queue + n + (k - (p.queue + n)) ≡ k = omega arith in
        ap (λ i. get_or us i 0) (sym at) ∙ sym (get_or-drop (p.queue + n) us (k - (p.queue + n)) 0)
        ∙ ap (λ xs. get_or xs (k - (p.queue + n)) 0) frame.behind
        ∙ get_or-drop (p.queue + n) vs (k - (p.queue + n)) 0 ∙ ap (λ i. get_or vs i 0) at ∙ f.behind k l;
  }
    where
      decides : (m : ℕ) → m < length t.modules → Decides (marked (column p e) us m) (Way (Edge (load_shape t) vs) r m)
      decides m l = (λ h. ⊎_elim (λ o. absurd (both_ways _ (none_marked m l) o)) (λ q. q) (reached.sound m h), λ q. reached.full m q)

      now : (m : ℕ) → m < length t.modules → row_has p us m e ≡ has (view t) m e
      now m l =
          sym (row_marked p _ len area e small us m l)
          ∙ same_from_decides _ _ (marked_has t vs m e r _ there is (decides m l)) (has_decides (view t) m e)

-- ---- the loop over the entries

-- the first e entries are done: the table means t₁, the words were ws and are vs
pub record EntriesDone (t : Table) (p : ModuleRows) (ws : List ℕ) (t₁ : Table) (vs : List ℕ) (e : ℕ) : Type 0 where
  pub few : length t.entries ≤ 256
  pub area : Area p (length t.modules) (length ws)
  pub same : t₁ ≡ t
  pub long : length vs ≡ length ws
  pub filled : Filled t p e ws vs

module _ {t : Table} {p : ModuleRows} {ws : List ℕ} {t₁ : Table} {vs : List ℕ} {e : ℕ} (d : EntriesDone t p ws t₁ vs e) (there : e < length t.entries)
    {o : Option ℕ} (told : o ≡ usable_root t₁ e) {t₂ : Table} (asked : t₂ ≡ t₁) where
  small : e < 256
  small = let few = d.few in omega arith

  root_is : usable_root t e ≡ o
  root_is = ap (λ u. usable_root u e) (sym d.same) ∙ sym told

  pub turn_asks : {r : ℕ} → o ≡ Some r → Ready (column p e) (load_shape t₂) (length vs) r × Closed (Edge (load_shape t₂) vs) (marked (column p e) vs)
  turn_asks {r} is =
      subst (λ u. Ready (column p e) (load_shape u) (length vs) r × Closed (Edge (load_shape u) vs) (marked (column p e) vs)) (sym (asked ∙ d.same))
      (fill_ready t p _ d.area e small ws vs d.filled r (root_is ∙ is) d.long, fill_closed t p _ d.area e small ws vs d.filled)

  pub turn_some : {r : ℕ} → o ≡ Some r → {t₃ : Table} {us : List ℕ} → t₃ ≡ t₂ → length us ≡ length vs
      → Reached (Edge (load_shape t₂) vs) r (marked (column p e) vs) (marked (column p e) us)
      → Frame (column p e) (load_shape t₂).nodes vs us → EntriesDone t p ws t₃ us (e + 1)
  unfolding load_shape
  turn_some {r} is {us = us} walked long reached frame = record {
    few = d.few;
    area = d.area;
    same = walked ∙ asked ∙ d.same;
    long = long ∙ d.long;
    filled = fill_step t p _ d.area e small ws vs d.filled there r (root_is ∙ is) us
        (subst (λ u. Reached (Edge (load_shape u) vs) r (marked (column p e) vs) (marked (column p e) us)) (asked ∙ d.same) reached)
        (subst (λ u. Frame (column p e) (length u.modules) vs us) (asked ∙ d.same) frame);
  }

  pub turn_none : ((r : ℕ) → o ≡ Some r → ⊥) → EntriesDone t p ws t₂ vs (e + 1)
  turn_none none = record {
    few = d.few;
    area = d.area;
    same = asked ∙ d.same;
    long = d.long;
    filled = fill_skip t p _ d.area e small ws vs d.filled there (λ r is. none r (sym root_is ∙ is));
  }
