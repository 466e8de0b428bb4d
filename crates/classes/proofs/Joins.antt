-- The classes of the rows of a table's modules are the table's atoms.
use Rattle.std.proofs.Common.{◌≡◌, ℕ, ◌+◌, ◌*◌, ◌/◌, ◌<◌, true, List, length, get_or, Some, sym, ap, ◌∙◌, inl, ⊎_elim, arith}
use Rattle.std.proofs.lemmas.Bool.{cases_Bool}
use Rattle.tables.specs.View.{View, module_count, entry_count}
use Rattle.rows.specs.Bits.{has as has_bit}
use Rattle.rows.proofs.Laws.{has_frame}
use Rattle.definitions.specs.Classes.{leasts, classes, class}
use Rattle.definitions.specs.Bits.{has, atoms, atom, whole}
use Rattle.definitions.proofs.Bits.{has_below}
use Rattle.definitions.proofs.Atoms.{whole_has}
use Rattle.classes.specs.declared.RowPlaces.{RowPlaces}
use Rattle.classes.specs.declared.TooManyClasses.{TooManyClasses}
use Rattle.classes.specs.declared.atoms.AtomPlaces.{AtomPlaces}
use Rattle.classes.specs.Numbering.{row_has, SaysRows, stored, Numbering, Over}
use Rattle.classes.specs.Copies.{CopyRoom, Copied}
use Rattle.classes.specs.Atoms.{AtomRoom, SaysBits, least_module, Atoms, PastLimit}
use Rattle.classes.proofs.Leaders.{leader_below, leader_class}
use Rattle.classes.proofs.Steps.{firsts_below}
use Rattle.classes.proofs.Widths.{leasts_are, class_is}

-- the least module of atom a is of atom a
pub least_atom : (t : View) (a : ℕ) → a < atoms t → (least_module t a < module_count t) × (atom t (least_module t a) ≡ Some a)
unfolding atom atoms
least_atom t a l = (leader_below (module_count t) (entry_count t) (has t) a l, leader_class (module_count t) (entry_count t) (has t) a l)

-- the rows of the modules, as bits of 256, have the table's atoms as classes
module _ {t : View} {at : RowPlaces} {ws : List ℕ} (says : SaysBits t at ws) where
  rows_say : SaysRows (has t) (module_count t) (entry_count t) at.rows ws
  rows_say =
      record {
        narrow = says.entries;
        bits_are = λ m e l b. says.bits m e (omega arith) b;
        none = λ m e l b h. ⊎_elim (λ (x : has t m e ≡ true). let below = (has_below t m e x).1 in absurd (omega arith)) (λ x. x) (cases_Bool (has t m e));
      }

  least_is : leasts (module_count t) (entry_count t) (has t) ≡ leasts at.count 256 (row_has at.rows ws)
  least_is = leasts_are rows_say ∙ ap (λ k. leasts k 256 (row_has at.rows ws)) (sym says.modules)

  atom_is : (m : ℕ) → m < at.count → atom t m ≡ class at.count 256 (row_has at.rows ws) m
  unfolding atom
  atom_is m l = class_is rows_say m (omega arith) ∙ ap (λ k. class k 256 (row_has at.rows ws) m) (sym says.modules)

  atoms_are : atoms t ≡ classes at.count 256 (row_has at.rows ws)
  unfolding atoms classes
  atoms_are = ap length least_is

  pub too_many : (e : TooManyClasses) → Over (row_has at.rows ws) at.count 256 e → PastLimit t e
  too_many e o = record {
    many = let is = atoms_are in let many = o.many in omega arith;
    which = o.which ∙ ap (λ xs. get_or xs 256 0) (sym least_is);
  }

-- the atoms are numbered, and their rows copied
module _ {at : AtomPlaces} {count : ℕ} (ws : List ℕ) {us : List ℕ} (room : AtomRoom at (length ws)) (long : length us ≡ length ws) (s : Numbering (row_has at.modules.rows ws) at.modules 256 at.modules.count count us) where
  pub copy_room : CopyRoom at.modules count at.atoms us
  copy_room =
      record { order = omega arith; between = omega arith; room = omega arith; firsts_below = firsts_below s (omega arith) }

  module _ {vs : List ℕ} (c : Copied at.modules at.atoms count us vs) where
    module _ {t : View} (says : SaysBits t at.modules ws) where
      row_stays : (m e : ℕ) → m < at.modules.count → e < 256 → has_bit us (at.modules.rows + 4 * m) e ≡ has t m e
      unfolding row_has
      row_stays m e l b = s.rows_are m e l b ∙ says.bits m e l b

      first_is : (a : ℕ) → a < count → get_or us (at.modules.firsts + a) 0 ≡ least_module t a
      first_is a l = s.first a l ∙ ap (λ xs. get_or xs a 0) (sym (least_is says))

      atom_row : (a e : ℕ) → a < count → e < 256 → has_bit vs (at.atoms + 4 * a) e ≡ whole t a e
      atom_row a e l b =
          let are = atoms_are says in
          let q = least_atom t a (omega arith) in
          c.copied a e l b ∙ ap (λ m. has_bit us (at.modules.rows + 4 * m) e) (first_is a l) ∙ row_stays (least_module t a) e (omega arith) b ∙ sym (whole_has t (least_module t a) a e q.1)

      pub grouped : Atoms t at count vs
      grouped =
          record {
            modules = record {
              modules = says.modules;
              entries = says.entries;
              bits = λ m e l b. has_frame vs us (at.modules.rows + 4 * m) e (c.outside (at.modules.rows + 4 * m + e / 64) (inl (omega arith))) ∙ row_stays m e l b;
            };
            counts = s.counts ∙ sym (atoms_are says);
            at_most = s.at_most;
            number = λ m l. c.outside (at.modules.numbers + m) (inl (omega arith)) ∙ s.number m l ∙ ap stored (sym (atom_is says m l));
            first = λ a l. c.outside (at.modules.firsts + a) (inl (omega arith)) ∙ first_is a l;
            bits = atom_row;
          }
