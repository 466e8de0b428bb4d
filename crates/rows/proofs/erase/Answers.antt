use Rattle.std.proofs.Common.{◌≡◌, ◌+◌, ◌≤◌, ◌<◌, replicate, ⊎_elim, rules}
use Rattle.std.proofs.lemmas.List.{places}
use Rattle.rows.specs.Bits.{op_row, Combined}
use Rattle.rows.proofs.Words.{combined_is}
use Rattle.rows.proofs.erase.Goals as goal

pub returns : goal.returns
unfolding op_row
returns c =
    let at = c.args.at in
    let zeros : c.fill.new.self ≡ replicate 4 0 = search rules in
    let made : Combined (λ _ _ r. r ≡ 0) at at c.args.words.now _ = record {
      long = search (rules, places);
      made = λ k l. search (rules, places);
      others = λ k o. ⊎_elim (λ (x : k < at). search (rules, places)) (λ (x : at + 4 ≤ k). search (rules, places)) o;
    } in
    combined_is (λ _ _. 0) c.requires made (λ k r p. p)
