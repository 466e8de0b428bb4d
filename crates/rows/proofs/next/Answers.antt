use Rattle.std.proofs.Common.{◌*◌, refl, arith, rules}
use Rattle.rows.proofs.Words.{skips, finds, whole}
use Rattle.rows.proofs.next.Goals as goal

-- the word of `from`
pub returns-then-rest-ne0 : goal.returns-then-rest-ne0
returns-then-rest-ne0 c =
    finds c.args.words.now c.args.at _ c.args.from _ refl refl c.args.from (omega arith) (search rules) (omega arith) (λ j l h. absurd (omega arith)) (omega arith) _ (omega arith)

pub loop-k-init : goal.loop-k-init
loop-k-init c = skips c.args.words.now c.args.at _ c.args.from _ refl refl c.args.from (λ j l h. absurd (omega arith)) (search rules)

-- a later word
pub returns-then-word-ne0 : goal.returns-then-word-ne0
returns-then-word-ne0 c =
    let k = c.loop-k.k in
    finds c.args.words.now c.args.at k (64 * k) _ (omega arith) (whole _ k) c.args.from (omega arith) (search rules) (omega arith) c.loop-k.invariant (omega arith) _ (omega arith)

pub loop-k-preserved : goal.loop-k-preserved
loop-k-preserved c =
    let k = c.loop-k.k in
    skips c.args.words.now c.args.at k (64 * k) _ (omega arith) (whole _ k) c.args.from c.loop-k.invariant (search rules)
