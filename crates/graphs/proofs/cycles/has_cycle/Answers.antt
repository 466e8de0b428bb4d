use Rattle.std.proofs.Common.{refl, ◌∙◌, arith}
use Rattle.std.proofs.lemmas.Bool.{both_ways, false≢true}
use Rattle.graphs.proofs.Backs.{node_ready, tried_scratch, tried_found, tried_more, tried_all}
use Rattle.graphs.proofs.cycles.has_cycle.Goals as goal

pub on_cycle-requires : goal.on_cycle-requires
on_cycle-requires g c = let count = c.nodes-v-end.ensures.answer in node_ready c.loop-v.invariant.tried (omega arith)

pub returns-then-on_cycle-clause-answer : goal.returns-then-on_cycle-clause-answer
returns-then-on_cycle-clause-answer g c =
    (λ _. tried_found c.loop-v.invariant.tried (c.on_cycle.ensures.answer.0 c.if-on_cycle.true), λ _. refl)

pub returns-then-on_cycle-clause-scratch : goal.returns-then-on_cycle-clause-scratch
returns-then-on_cycle-clause-scratch g c = tried_scratch c.loop-v.invariant.tried c.on_cycle.ensures.scratch

pub loop-v-preserved : goal.loop-v-preserved
loop-v-preserved g c =
    let l = c.loop-v.invariant in
    let o = c.on_cycle.ensures in
    record {
      tried = tried_more l.tried (g.met.G.Graph.same_shape _ _ o.kept) c.on_cycle.auto.words
          (λ b. both_ways c.on_cycle.result c.if-on_cycle.false (o.answer.1 b)) o.scratch;
      kept = o.kept ∙ l.kept;
    }

pub returns-clause-answer : goal.returns-clause-answer
returns-clause-answer g c =
    (λ e. absurd (false≢true e), λ b. absurd (tried_all c.loop-v.invariant.tried (let count = c.nodes-v-end.ensures.answer in omega arith) b))
