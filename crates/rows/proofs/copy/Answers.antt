use Rattle.std.proofs.Common.{◌≡◌, ◌+◌, ◌≤◌, ◌<◌, ⊎_elim, arith}
use Rattle.rows.specs.Bits.{Combined}
use Rattle.rows.proofs.Words.{combined_is}
use Rattle.rows.proofs.copy.Goals as goal

pub returns : goal.returns
returns c =
    let to = c.args.to in
    let told = c.copy_within.ensures.by_index in
    let made : Combined (λ _ b r. r ≡ b) to c.args.from c.args.words.now c.copy_within.new.self = record {
      long = c.copy_within.ensures.len;
      made = λ k l. grind (arith, told.0 (to + k) 0);
      others = λ k o. ⊎_elim (λ (x : k < to). told.1 k 0 x) (λ (x : to + 4 ≤ k). told.2 k 0 (omega arith)) o;
    } in
    combined_is (λ _ b. b) c.requires.to_row made (λ k r p. p)
