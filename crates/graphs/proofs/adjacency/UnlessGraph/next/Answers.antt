use Rattle.std.proofs.Common.{sym}
use Rattle.graphs.specs.Tests.{unless_shape}
use Rattle.graphs.proofs.Edges.{unless_next, unless_stops}
use Rattle.graphs.proofs.adjacency.UnlessGraph.next.Goals as goal

pub returns-then-test-clause-answer : goal.returns-then-test-clause-answer
unfolding unless_shape
returns-then-test-clause-answer g c =
    let self = c.args.self.now in
    unless_stops self.barred (g.G.Graph.shape self.of) c.args.words.now c.args.v c.args.from c.requires.node (sym c.if-test.ensures)

pub returns-clause-answer : goal.returns-clause-answer
unfolding unless_shape
returns-clause-answer g c =
    let self = c.args.self.now in
    unless_next self.barred (g.G.Graph.shape self.of) c.args.words.now c.args.v c.args.from c.next.result c.requires.node
    (sym c.if-test.ensures) c.next.ensures.answer
