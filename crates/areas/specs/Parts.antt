-- Everything that begin works out of a table and a veto, at its place in the words of a plan.
use Rattle.std.specs.Prelude.{List, ℕ}
use Rattle.tables.specs.View.{View}
use Rattle.definitions.specs.Plan.{Veto}
use Rattle.areas.specs.Areas.{starts_at, hosts_at, roots_at, bits_at, numbers_at, firsts_at, wholes_at, cycles_at, reaches_at, loaders_at, trials_at, prepared_at, imports_at}
use Rattle.areas.specs.Says.{SaysNumbers, SaysBits, SaysFirsts, SaysWholes, SaysCycles, SaysReaches, SaysHosts, SaysRoots, SaysTrials, SaysImports, SaysPrepared, SaysStarts, SaysLoaders}

-- over m modules and e entries
pub record Parts (t : View) (veto : Veto) (m e : ℕ) (ws : List ℕ) : Type 0 where
  pub starts : SaysStarts t starts_at ws
  pub hosts : SaysHosts t (hosts_at m e) ws
  pub roots : SaysRoots t (roots_at m e) ws
  pub bits : SaysBits t (bits_at m e) ws
  pub numbers : SaysNumbers t (numbers_at m e) ws
  pub firsts : SaysFirsts t (firsts_at m e) ws
  pub wholes : SaysWholes t (wholes_at m e) ws
  pub cycles : SaysCycles t (cycles_at m e) ws
  pub reaches : SaysReaches t (reaches_at m e) ws
  pub loaders : SaysLoaders t (loaders_at m e) ws
  pub trials : SaysTrials t (trials_at m e) ws
  pub prepared : SaysPrepared t veto (prepared_at m e) ws
  pub imports : SaysImports t (imports_at m e) ws
