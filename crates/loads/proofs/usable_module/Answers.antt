use Rattle.std.proofs.Common.{◌≡◌, ◌&&◌, false, ◌∙◌, rules}
use Rattle.std.specs.Option.{option_map_or}
use Rattle.tables.specs.Flags.{flag}
use Rattle.loads.proofs.Asks.{usable_asked}
use Rattle.loads.proofs.usable_module.Goals as goal

pub returns-clause-answer : goal.returns-clause-answer
returns-clause-answer g c =
    let is : c.is_some_and.result ≡ option_map_or (λ i. flag 1 i.flags && flag 2 i.flags) c.module.result false = search rules in
    is ∙ usable_asked _ c.args.m c.module.result c.module.ensures.answer
