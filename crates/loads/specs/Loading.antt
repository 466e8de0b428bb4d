-- The graph of a table's load dependencies, cut down to the modules that are normal and included.
use Rattle.std.specs.Prelude.{◌≡◌, ℕ, ◌<◌, true, cond, length, Some, None, Option, option_and_then, refl}
use Rattle.std.proofs.Common.{ap, subst}
use Rattle.std.proofs.lemmas.Option.{none-some, cond_some}
use Rattle.tables.specs.Value.{Table}
use Rattle.tables.specs.View.{View, view}
use Rattle.tables.specs.Asked.{items_of, item_at}
use Rattle.tables.specs.declared.thing.ModuleList.TheVariants.{Loads}
use Rattle.reach.specs.Shape.{Shape}
use Rattle.definitions.specs.Bits.{usable}
use Rattle.definitions.proofs.Bits.{usable_below}

-- the module, if it is usable
abbrev pub if_usable : View → ℕ → Option ℕ
if_usable t d = cond (usable t d) (Some d) None

abbrev pub usable_of : View → Option ℕ → Option ℕ
usable_of t o = option_and_then (if_usable t) o

pub usable_of_some : (t : View) (o : Option ℕ) (w : ℕ) → usable_of t o ≡ Some w → (o ≡ Some w) × (usable t w ≡ true)
usable_of_some t None w e = absurd (none-some w e)
usable_of_some t (Some d) w e = let p = cond_some (usable t d) d w e in (ap Some p.1, subst (λ x. usable t x ≡ true) p.1 p.0)

-- how many modules m loads, and load i of it, if that is usable
abbrev pub load_count : Table → ℕ → ℕ
load_count t m = length (items_of t Loads m)

abbrev pub load_slot : Table → ℕ → ℕ → Option ℕ
load_slot t m i = usable_of (view t) (item_at t Loads m i)

pub view_modules : (t : Table) → (view t).modules ≡ length t.modules
unfolding view
view_modules t = refl

unfoldable pub load_shape : Table → Shape
load_shape t = record {
  nodes = length t.modules;
  limit = 0;
  slots = λ _ v. load_count t v;
  slot = λ _ v i. load_slot t v i;
  inside = λ us v i w h e. subst (λ n. w < n) (view_modules t) (usable_below (view t) w (usable_of_some (view t) (item_at t Loads v i) w e).1);
}
