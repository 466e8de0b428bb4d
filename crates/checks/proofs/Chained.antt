-- A chain that comes to its end within as many links as there are symbols is one that ends.
use Rattle.std.proofs.Common.{◌≡◌, ℕ, not, length, Option, sym, ap, ◌∙◌}
use Rattle.std.proofs.Math.Bool.{not-not}
use Rattle.tables.specs.Value.{Table}
use Rattle.tables.specs.View.{view}
use Rattle.tables.specs.Links.{canon, endless}
use Rattle.tables.specs.declared.fault.Cause.TheVariants.{EndlessLinks}
use Rattle.tables.specs.declared.thing.Field.{Field}
use Rattle.tables.specs.declared.thing.Field.TheVariants as field
use Rattle.tables.specs.declared.thing.Thing.{Thing}
use Rattle.tables.specs.declared.thing.Thing.TheVariants as thing
use Rattle.asks.specs.Walked.{ends_within}
use Rattle.definitions.specs.Checks.{unless, fault_at}
use Rattle.checks.specs.Linked.{chain_checked, chain_checked_within}

within_is_ending : (t : Table) (n s : ℕ) → n ≡ length t.symbols → ends_within (view t) n s ≡ not (endless (view t) s)
unfolding endless canon ends_within view
within_is_ending t n s e = ap (λ k. ends_within (view t) k s) e ∙ sym (not-not (ends_within (view t) (length t.symbols) s))

pub chain_told : {P : Type 0} (place : Thing → Field → Option P) (t : Table) (n s : ℕ) → n ≡ length t.symbols →
    chain_checked_within place (view t) n s ≡ chain_checked place (view t) s
chain_told place t n s e = ap (λ b. unless b (fault_at place (EndlessLinks s) (thing.Symbol s) field.Whole)) (within_is_ending t n s e)
