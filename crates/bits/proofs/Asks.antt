-- What the table's answer for an entry says of the entry's module.
use Rattle.std.proofs.Common.{◌≡◌, ℕ, ◌<◌, length, get_or, Some, ap, ◌∙◌}
use Rattle.std.specs.Option.{option_map}
use Rattle.std.proofs.lemmas.Option.{slice_get-get_or}
use Rattle.tables.specs.declared.parts.EntryInfo.{EntryInfo}
use Rattle.tables.specs.Value.{Table}
use Rattle.tables.specs.View.{view, no_entry}
use Rattle.tables.specs.Flags.{root}
use Rattle.tables.specs.Asked.{entry_info_of, table_entry}
use Rattle.loads.specs.Loading.{if_usable}
use Rattle.bits.specs.Rows.{usable_root}

pub root_asked : (t : Table) (e : ℕ) (info : EntryInfo) → e < length t.entries → Some info ≡ table_entry t e → if_usable (view t) info.root ≡ usable_root t e
unfolding root view
root_asked t e info there h =
    let is : Some info ≡ Some (entry_info_of (get_or t.entries e no_entry)) = h ∙ ap (option_map entry_info_of) (slice_get-get_or t.entries e no_entry there) in
    let home : info.root ≡ (get_or t.entries e no_entry).root = cc in
    ap (if_usable (view t)) home
