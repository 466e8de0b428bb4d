use Rattle.std.proofs.Common.{arith}
use Rattle.std.proofs.lemmas.Result.{err_from_is_err_and}
use Rattle.classes.proofs.Joins.{copy_room, grouped, too_many}
use Rattle.classes.proofs.atoms.group_modules_by_dependent_entries.Goals as goal

pub copy_first_rows-requires : goal.copy_first_rows-requires
copy_first_rows-requires c = copy_room c.args.words.now c.requires (omega arith) c.in_ok-count.ensures.numbered

pub returns-clause-grouped : goal.returns-clause-grouped
returns-clause-grouped c t says = grouped c.args.words.now c.requires (omega arith) c.in_ok-count.ensures.numbered c.copy_first_rows.ensures says

pub returns-in_err-count-clause-grouped : goal.returns-in_err-count-clause-grouped
returns-in_err-count-clause-grouped c t says =
    let p = err_from_is_err_and c.from_residual.result c.from_residual.ensures.1 in
    rw (p.1, p.2) (too_many says _ c.in_err-count.ensures.numbered)
