-- What a walk along links of a given number says of a chain.
use Rattle.std.specs.Prelude.{ℕ, Bool, ◌==◌}
use Rattle.tables.specs.View.{View, symbol_at}
use Rattle.tables.specs.Links.{linked}

-- the chain from s has come to its end after k links: the symbol there links to itself
unfoldable pub ends_within : View → ℕ → ℕ → Bool
ends_within t k s = (symbol_at t (linked t k s)).link == linked t k s
