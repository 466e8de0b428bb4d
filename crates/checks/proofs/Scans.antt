-- Names that stand twice: the tests of the earlier exports, and the order in which these are held.
use Rattle.std.proofs.Common.{◌≡◌, ℕ, zero, suc, ◌+◌, Bool, true, false, not, ◌&&◌, ◌||◌, eqb, List, [], ◌∷◌, ◌++◌, length, take, Some, None, Ok, Option, sym, refl, ap, ◌∙◌, append_assoc, arith}
use Rattle.std.specs.Cmp.Lexicographic.{pointwise}
use Rattle.std.specs.List.{slice_get}
use Rattle.std.specs.Option.{option_map, option_map_or}
use Rattle.std.proofs.Math.Seq.{take-append_seam}
use Rattle.tables.specs.Below.{some_of}
use Rattle.tables.specs.Names.{same_name}
use Rattle.tables.specs.Value.{Meaning, Module, Export}
use Rattle.tables.specs.Asked.{info_of, list_of, exports_of, export_at, table_module}
use Rattle.tables.specs.declared.parts.ModuleInfo.{ModuleInfo}
use Rattle.tables.specs.declared.fault.Cause.TheVariants.{NameTwice}
use Rattle.tables.specs.declared.fault.Fault.{Fault}
use Rattle.tables.specs.declared.thing.Field.{Field}
use Rattle.tables.specs.declared.thing.Field.TheVariants as field
use Rattle.tables.specs.declared.thing.Thing.{Thing}
use Rattle.tables.specs.declared.thing.Thing.TheVariants as thing
use Rattle.definitions.specs.Checks.{Checked, then, each, unless, fault_at, names_among}
use Rattle.checkparts.specs.Each.{each_below}
use Rattle.checkparts.proofs.Turns.{each_there}
use Rattle.checks.specs.Named.{other_name, new_name}

-- `==` of two names
pub same_is : (xs ys : List ℕ) → pointwise eqb xs ys ≡ same_name xs ys
unfolding same_name
same_is [] [] = refl
same_is [] (y ∷ ys) = refl
same_is (x ∷ xs) [] = refl
same_is (x ∷ xs) (y ∷ ys) = ap (λ b. eqb x y && b) (same_is xs ys)

-- the checks of the elements before number i all give one fault, so they give it where one of these passes the test
module _ {P X : Type 0} (p : X → Bool) (f : Fault P) where
  abbrev misses : X → Checked P
  misses y = unless (not (p y)) f

  take_nil : (i : ℕ) → take {A = X} i [] ≡ []
  take_nil zero = refl
  take_nil (suc i) = refl

  either : (b c : Bool) → then (unless (not b) f) (unless (not c) f) ≡ unless (not (b || c)) f
  either true c = refl
  either false c = refl

  scan_from : (one : ℕ → Checked P) (k i : ℕ) (xs : List X) →
      ((j m : ℕ) → j ≡ k + m → one j ≡ option_map_or misses (slice_get xs m) (Ok tt)) → each_below one k i ≡ unless (not (some_of p (take i xs))) f
  scan_from one k zero xs h = refl
  scan_from one k (suc i) [] h =
      ap (λ r. then r (each_below one (suc k) i)) (h k 0 (omega arith)) ∙ scan_from one (suc k) i [] (λ j m e. h j (suc m) (omega arith))
      ∙ ap (λ l. unless (not (some_of p l)) f) (take_nil i)
  scan_from one k (suc i) (x ∷ xs) h =
      ap (λ r. then r (each_below one (suc k) i)) (h k 0 (omega arith))
      ∙ ap (then (misses x)) (scan_from one (suc k) i xs (λ j m e. h j (suc m) (omega arith))) ∙ either (p x) (some_of p (take i xs))

  scan_told : (i : ℕ) (xs : List X) → each_below (λ j. option_map_or misses (slice_get xs j) (Ok tt)) 0 i ≡ unless (not (some_of p (take i xs))) f
  scan_told i xs = scan_from _ 0 i xs (λ j m e. let z : j ≡ m = omega arith in ap (λ q. option_map_or misses (slice_get xs q) (Ok tt)) z)

some_last : {X : Type 0} (p : X → Bool) (front : List X) (x : X) → some_of p (front ++ (x ∷ [])) ≡ (p x || some_of p front)
some_last p [] x = refl
some_last p (y ∷ ys) x = ap (λ b. p y || b) (some_last p ys x) ∙ swap (p y) (p x) (some_of p ys)
  where
    swap : (a b c : Bool) → (a || (b || c)) ≡ (b || (a || c))
    swap true true c = refl
    swap true false c = refl
    swap false b c = refl

length_last : {X : Type 0} (front : List X) (x : X) → length (front ++ (x ∷ [])) ≡ suc (length front)
length_last [] x = refl
length_last (y ∷ ys) x = ap suc (length_last ys x)

-- the check of a name among those before it, in a list that is known whole
module _ {P : Type 0} (place : Thing → Field → Option P) (m : ℕ) where
  among : (xs rest earlier front : List Export) → xs ≡ front ++ rest → ((p : Export → Bool) → some_of p earlier ≡ some_of p front) →
      each (new_name place xs m) (length front) rest ≡ names_among place earlier m (length front) rest
  among xs [] earlier front is same = refl
  among xs (x ∷ rest) earlier front is same =
      ap (λ b. then (unless (not b) (fault_at place NameTwice (thing.Export m (length front)) field.Name)) (each (new_name place xs m) (suc (length front)) rest))
      (ap (λ l. some_of has (take (length front) l)) is ∙ ap (some_of has) (take-append_seam front (x ∷ rest)) ∙ sym (same has))
      ∙ ap (then (unless (not (some_of has earlier)) (fault_at place NameTwice (thing.Export m (length front)) field.Name)))
      (rw length_last at (among xs rest (x ∷ earlier) (front ++ (x ∷ [])) longer last))
    where
      has : Export → Bool
      has y = same_name y.name x.name

      longer : xs ≡ (front ++ (x ∷ [])) ++ rest
      longer = is ∙ sym (append_assoc front (x ∷ []) rest)

      last : (p : Export → Bool) → some_of p (x ∷ earlier) ≡ some_of p (front ++ (x ∷ []))
      last p = ap (λ b. p x || b) (same p) ∙ sym (some_last p front x)

  whole : (o : Option Module) → each (new_name place (list_of (λ x. x.exports) o) m) 0 (list_of (λ x. x.exports) o) ≡ option_map_or (λ x. names_among place [] m 0 x.exports) o (Ok tt)
  whole None = refl
  whole (Some x) = among x.exports x.exports [] [] refl (λ p. refl)

module _ {P : Type 0} (v w : Meaning P) (m : ℕ) (same : w ≡ v) where
  -- those before export i
  pub new_told : (i : ℕ) (x : Export) (r : Checked P) → Some x ≡ export_at v.table m i →
      r ≡ each_below (λ j. option_map_or (other_name w.place m i x.name) (export_at w.table m j) (Ok tt)) 0 i →
      r ≡ option_map_or (new_name v.place (exports_of v.table m) m i) (export_at v.table m i) (Ok tt)
  new_told i x r at told =
      told ∙ ap (λ u. each_below (λ j. option_map_or (other_name u.place m i x.name) (export_at u.table m j) (Ok tt)) 0 i) same
      ∙ scan_told (λ y. same_name y.name x.name) (fault_at v.place NameTwice (thing.Export m i) field.Name) i (exports_of v.table m)
      ∙ ap (λ o. option_map_or (new_name v.place (exports_of v.table m) m i) o (Ok tt)) at

  -- all exports of the module
  pub names_told : (info : ModuleInfo) (r : Checked P) → Some info ≡ table_module v.table m →
      r ≡ each_below (λ i. option_map_or (new_name w.place (exports_of w.table m) m i) (export_at w.table m i) (Ok tt)) 0 info.exports →
      r ≡ option_map_or (λ x. names_among v.place [] m 0 x.exports) (slice_get v.table.modules m) (Ok tt)
  names_told info r asked told =
      each_there (new_name v.place (exports_of v.table m) m) info.exports (exports_of v.table m) r (count (slice_get v.table.modules m) asked)
      (told ∙ ap (λ u. each_below (λ i. option_map_or (new_name u.place (exports_of u.table m) m i) (export_at u.table m i) (Ok tt)) 0 info.exports) same)
      ∙ whole v.place m (slice_get v.table.modules m)
    where
      count : (o : Option Module) → Some info ≡ option_map info_of o → info.exports ≡ length (list_of (λ x. x.exports) o)
      count None e = let z : ◌≡◌ {A = ℕ} 0 1 = cc in absurd (omega arith)
      count (Some x) e = let is : info ≡ info_of x = cc in ap (λ i. i.exports) is
