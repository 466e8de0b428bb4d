use Rattle.std.proofs.Common.{◌≡◌, true, false, sym, rules, tests}
use Rattle.std.proofs.lemmas.Iterator.{first_from_Range}
use Rattle.classes.specs.Numbering.{same_as}
use Rattle.classes.proofs.Steps.{same_is}
use Rattle.classes.proofs.find_class.Goals as goal

pub returns : goal.returns
returns c =
    first_from_Range _ _ _ _ (λ a. same_as c.args.at c.args.words.now c.args.i a ≡ true) (λ a. same_as c.args.at c.args.words.now c.args.i a ≡ false) c.find.ensures.ran
    (λ a q k. sym (same_is c.args.at c.args.words.now c.args.i a true (search (rules, tests))))
    (λ a q k. (search rules, sym (same_is c.args.at c.args.words.now c.args.i a false (search (rules, tests)))))
