-- The small cases hold, by computation.
use Rattle.std.proofs.Common.{refl, arith}
use Rattle.definitions.specs.Cases.{SmallCases}
use Rattle.definitions.specs.Graph.{through, reaches, cyclic}
use Rattle.definitions.specs.Classes.{same_row, least, leasts, classes, class}
use Rattle.tables.specs.View.{view}
use Rattle.tables.specs.Flags.{normal, included, effectful, inner, namespace_included, dynamic_exports, runtime_dependent, partly_used, is_cjs, is_esm, root, dynamic, dynamic_imported, async_entry, strict_signature, is_root, owner, used}
use Rattle.tables.specs.Links.{linked, canon, endless, alias, served}
use Rattle.tables.specs.Names.{name_before, same_name}
use Rattle.definitions.specs.Bits.{usable, load_step, has, atoms, atom, members, whole, host}
use Rattle.definitions.specs.Targets.{owns, owns_use, predicted, is_namespace, live, other_than, wrapper_of, same_end, preceded, counted_wrapper, is_used, served_by, serves, service, live_service, only, own_chunk, cycle_target, reach_target, atom_graph, cycle_graph, reach_graph}
use Rattle.definitions.specs.Cover.{loads, counting_site, imports, open_step, covered}
use Rattle.definitions.specs.Rules.{trial, lost, exports_name, exports_same, keeps_signature, runtime_only, loses_own, by_namespace, rules}
use Rattle.definitions.specs.Plan.{bits_under, on_trial, chunk_count, chunk, chunk_only, atom_edge, has_host, host_edge, chunk_graph, chunks_cyclic, unless_cyclic, by_rules, by_remaining, verdict, put, decide, decided, first, has_after, share_count}
use Rattle.definitions.specs.Checks.{counts_checked, numbers_checked, links_checked, names_checked, atoms_checked, words_checked, table_checked}
use Rattle.definitions.specs.Lines.{line_of, lines_under, lines}
use Rattle.definitions.specs.Cases.{in_order, verdicts, entries_after, Refusals}

-- everything that computes here, named once
abbrev computing : Unit {0}
unfolding through reaches cyclic same_row least leasts classes class view normal included effectful inner namespace_included dynamic_exports runtime_dependent partly_used is_cjs is_esm root dynamic dynamic_imported async_entry strict_signature is_root owner used linked canon endless alias served name_before same_name usable load_step has atoms atom members whole host owns owns_use predicted is_namespace live other_than wrapper_of same_end preceded counted_wrapper is_used served_by serves service live_service only own_chunk cycle_target reach_target atom_graph cycle_graph reach_graph loads counting_site imports open_step covered trial lost exports_name exports_same keeps_signature runtime_only loses_own by_namespace rules bits_under on_trial chunk_count chunk chunk_only atom_edge has_host host_edge chunk_graph chunks_cyclic unless_cyclic by_rules by_remaining verdict put decide decided first has_after share_count line_of lines_under lines verdicts entries_after
computing = tt

pub small_cases : SmallCases in_order
unfolding computing
small_cases = record {
  words = (refl, omega arith);
  one = refl;
  two = refl;
  three = refl;
  four = (refl, refl, refl);
  five = refl;
  six = refl;
  seven = refl;
  eight = refl;
  nine = refl;
}

pub refusals : Refusals table_checked
unfolding computing counts_checked numbers_checked links_checked names_checked atoms_checked words_checked table_checked
refusals = record {
  enough = refl;
  too_few = refl;
  none_needed = refl;
  names_nothing = refl;
  words_first = refl;
  in_a_circle = refl;
  name_twice = refl;
}
