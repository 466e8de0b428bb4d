use Rattle.std.proofs.Common.{◌≡◌, ◌+◌, ◌-◌, ◌^◌, get_or, ◌∙◌, rules}
use lib.Bits.{bit_and}
use Rattle.rows.specs.Bits.{less}
use Rattle.rows.proofs.Digits.{and_not}
use Rattle.rows.proofs.Words.{combined_is}
use Rattle.rows.proofs.subtract.Goals as goal

pub returns : goal.returns
returns c = combined_is less c.requires.to_row c.combine.ensures (λ k r p.
    let a = get_or c.args.words.now (c.args.to + k) 0 in
    let b = get_or c.args.words.now (c.args.from + k) 0 in
    let is : r ≡ bit_and a (2 ^ 64 - 1 - b) = search rules in
    is ∙ and_not a b (search rules) (search rules))
