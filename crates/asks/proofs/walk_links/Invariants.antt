use Rattle.std.proofs.Common.{◌≡◌}
use Rattle.tables.specs.View.{view}
use Rattle.asks.proofs.Walks.{Walk}
use Rattle.asks.proofs.walk_links.Given as goal

-- the table means what it meant, and the links that are left lead where all of them lead
abbrev pub invariant-loop-step : goal.invariant-loop-step
invariant-loop-step g l =
    let means = g.T.LinkTable.means in
    record { same : means l.table ≡ means l.fn.table; left : Walk (view (means l.fn.table).table) l.links l.s l._step l.at }
