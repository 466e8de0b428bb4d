-- Where everything stands in the words of a plan over M modules and E entries. There is room for as many atoms as there are
-- modules, and at most 256. The first words are the header; what is only worked with stands behind all that stays.
use Rattle.std.specs.Prelude.{ℕ, min, ◌+◌, ◌*◌, ◌<◌, ◌≤◌}
use Rattle.definitions.specs.Plan.{need}
use Rattle.areas.specs.declared.Areas.{Areas}

-- the words of the header: whether the plan is begun (1), how many modules, entries and atoms there are, and how many atoms
-- are decided
abbrev pub begun_at : ℕ
begun_at = 0

abbrev pub modules_at : ℕ
modules_at = 1

abbrev pub entries_at : ℕ
entries_at = 2

abbrev pub atoms_at : ℕ
atoms_at = 3

abbrev pub decided_at : ℕ
decided_at = 4

-- the row of the entries that are not dynamic
abbrev pub starts_at : ℕ
starts_at = 12

-- how many atoms there is room for
abbrev pub room : ℕ → ℕ
room m = min m 256

module _ (m e : ℕ) where
  -- a word for each entry: the number of its host, its module
  abbrev pub hosts_at : ℕ
  hosts_at = 16

  abbrev pub roots_at : ℕ
  roots_at = 16 + e

  -- a row and a word for each module: its entries, the number of its atom
  abbrev pub bits_at : ℕ
  bits_at = 16 + 2 * e

  abbrev pub numbers_at : ℕ
  numbers_at = 16 + 2 * e + 4 * m

  -- for each atom: its least module, and rows of its entries, of the atoms that it leads to in the two graphs, of the entries
  -- that load it, and of its trial bits; its verdict but for the test for cycles, and its verdict
  abbrev pub firsts_at : ℕ
  firsts_at = 16 + 2 * e + 5 * m

  abbrev pub wholes_at : ℕ
  wholes_at = 16 + 2 * e + 5 * m + room m

  abbrev pub cycles_at : ℕ
  cycles_at = 16 + 2 * e + 5 * m + 5 * room m

  abbrev pub reaches_at : ℕ
  reaches_at = 16 + 2 * e + 5 * m + 9 * room m

  abbrev pub loaders_at : ℕ
  loaders_at = 16 + 2 * e + 5 * m + 13 * room m

  abbrev pub trials_at : ℕ
  trials_at = 16 + 2 * e + 5 * m + 17 * room m

  abbrev pub prepared_at : ℕ
  prepared_at = 16 + 2 * e + 5 * m + 21 * room m

  abbrev pub verdicts_at : ℕ
  verdicts_at = 16 + 2 * e + 5 * m + 22 * room m

  -- a row for each entry: the entries that it imports
  abbrev pub imports_at : ℕ
  imports_at = 16 + 2 * e + 5 * m + 23 * room m

  -- what is only worked with, to the end
  abbrev pub scratch_at : ℕ
  scratch_at = 16 + 6 * e + 5 * m + 23 * room m

abbrev pub areas_of : ℕ → ℕ → Areas
areas_of m e = record {
  starts = starts_at;
  hosts = hosts_at m e;
  roots = roots_at m e;
  bits = bits_at m e;
  numbers = numbers_at m e;
  firsts = firsts_at m e;
  wholes = wholes_at m e;
  cycles = cycles_at m e;
  reaches = reaches_at m e;
  loaders = loaders_at m e;
  trials = trials_at m e;
  prepared = prepared_at m e;
  verdicts = verdicts_at m e;
  imports = imports_at m e;
  scratch = scratch_at m e;
}

-- over m modules and e entries the parts lie one behind another, each with the room that it needs, and all within the
-- words that a plan needs
pub record OneBehindAnother (at : Areas) (m e : ℕ) : Type 0 where
  pub header : decided_at < at.starts
  pub starts : at.starts + 4 ≤ at.hosts
  pub hosts : at.hosts + e ≤ at.roots
  pub roots : at.roots + e ≤ at.bits
  pub bits : at.bits + 4 * m ≤ at.numbers
  pub numbers : at.numbers + m ≤ at.firsts
  pub firsts : at.firsts + room m ≤ at.wholes
  pub wholes : at.wholes + 4 * room m ≤ at.cycles
  pub cycles : at.cycles + 4 * room m ≤ at.reaches
  pub reaches : at.reaches + 4 * room m ≤ at.loaders
  pub loaders : at.loaders + 4 * room m ≤ at.trials
  pub trials : at.trials + 4 * room m ≤ at.prepared
  pub prepared : at.prepared + room m ≤ at.verdicts
  pub verdicts : at.verdicts + room m ≤ at.imports
  pub imports : at.imports + 4 * e ≤ at.scratch
  pub scratch : at.scratch ≤ need m e
