-- Graphs by a test: an edge leads from v to w, both below n, where the test says so. The test by rows of bits. And a graph
-- less the edges from barred nodes.
use Rattle.std.specs.Prelude.{◌≡◌, ℕ, ◌+◌, ◌*◌, ◌/◌, ◌<◌, max, Bool, true, false, cond, List, take, Some, None, Option, refl}
use Rattle.std.proofs.Common.{ap, subst, ap₂}
use Rattle.std.proofs.lemmas.Option.{none-some, cond_some}
use Rattle.rows.specs.Bits.{has}
use Rattle.reach.specs.Shape.{Shape}

-- slot w of a graph by a test holds w itself
abbrev pub held : Bool → ℕ → Option ℕ
held b w = cond b (Some w) None

unfoldable pub test_shape : ℕ → ℕ → (List ℕ → ℕ → ℕ → Bool) → Shape
test_shape n limit test = record {
  nodes = n;
  limit = limit;
  slots = λ us v. n;
  slot = λ us v i. held (test us v i) i;
  inside = λ us v i w l e. subst (λ x. x < n) (cond_some (test us v i) i w e).1 l;
}

abbrev pub row_test : ℕ → List ℕ → ℕ → ℕ → Bool
row_test at us v w = has us (at + 4 * v) w

abbrev pub row_shape : ℕ → ℕ → Shape
row_shape at n = test_shape n (at + 4 * n) (row_test at)

-- its edges, in the words
abbrev pub RowEdge : ℕ → ℕ → List ℕ → ℕ → ℕ → Type 0
RowEdge at n ws v w = (v < n) × (w < n) × (has ws (at + 4 * v) w ≡ true)

-- no slot of a barred node is filled
abbrev pub unless : Bool → Option ℕ → Option ℕ
unless b o = cond b None o

pub unless_some : (b : Bool) (o : Option ℕ) (w : ℕ) → unless b o ≡ Some w → (b ≡ false) × (o ≡ Some w)
unless_some false o w e = (refl, e)
unless_some true o w e = absurd (none-some w e)

-- the graph of the shape s, but the nodes that the set at `barred` has are barred
unfoldable pub unless_shape : ℕ → Shape → Shape
unless_shape barred s = record {
  nodes = s.nodes;
  limit = max s.limit (barred + (s.nodes + 63) / 64);
  slots = λ us v. s.slots (take s.limit us) v;
  slot = λ us v i. unless (has us barred v) (s.slot (take s.limit us) v i);
  inside = λ us v i w l e. s.inside (take s.limit us) v i w l (unless_some (has us barred v) (s.slot (take s.limit us) v i) w e).1;
}

pub unless_same : {K : Type 0} {a b : ℕ} {j k : K} {s t : Shape} → ◌≡◌ {A = ℕ × K} (a, j) (b, k) → (j ≡ k → s ≡ t) → unless_shape a s ≡ unless_shape b t
unless_same e same = ap₂ unless_shape (ap (λ p. p.0) e) (same (ap (λ p. p.1) e))
