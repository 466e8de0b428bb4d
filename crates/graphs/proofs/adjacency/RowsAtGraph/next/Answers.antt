use Rattle.std.proofs.Common.{◌≡◌, sym, subst, rules}
use Rattle.std.specs.Option.{option_map}
use Rattle.reach.specs.Shape.{NextSlot}
use Rattle.graphs.specs.Tests.{row_shape, test_shape}
use Rattle.graphs.proofs.Edges.{row_next}
use Rattle.graphs.proofs.adjacency.RowsAtGraph.next.Goals as goal

pub returns-clause-answer : goal.returns-clause-answer
unfolding test_shape
returns-clause-answer c =
    let self = c.args.self.now in
    let is : c.map.result ≡ option_map (λ w. record { index = w; node = w }) c.next_below.result = search rules in
    subst (NextSlot (row_shape self.at self.nodes) c.args.words.now c.args.v c.args.from) (sym is)
    (row_next self.at self.nodes self.few c.args.words.now c.args.v c.args.from c.next_below.result c.requires.node c.next_below.ensures)
