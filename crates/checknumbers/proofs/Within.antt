-- Where the numbers pass, every link names a symbol.
use Rattle.std.proofs.Common.{◌≡◌, ℕ, ◌<◌, length, get_or, Ok, Option, sym, arith}
use Rattle.std.proofs.lemmas.Option.{slice_get-get_or}
use Rattle.std.proofs.lemmas.Grind.{common_steps}
use Rattle.tables.specs.Value.{Table}
use Rattle.tables.specs.View.{view, no_symbol}
use Rattle.tables.specs.Links.{LinksWithin}
use Rattle.tables.specs.declared.parts.Symbol.{Symbol}
use Rattle.tables.specs.declared.thing.Field.{Field}
use Rattle.tables.specs.declared.thing.Thing.{Thing}
use Rattle.definitions.specs.Checks.{each, symbol_checked, numbers_checked}
use Rattle.checkparts.proofs.Turns.{each_passes}

module _ {P : Type 0} (place : Thing → Field → Option P) (t : Table) where
  symbols_pass : Ok tt ≡ numbers_checked place t → Ok tt ≡ each (symbol_checked place (length t.modules) (length t.symbols)) 0 t.symbols
  unfolding numbers_checked
  symbols_pass e = grind (arith, common_steps)

  link_passes : (modules symbols s : ℕ) (x : Symbol) → Ok tt ≡ symbol_checked place modules symbols s x → x.link < symbols
  link_passes modules symbols s x e = grind (arith, common_steps)

  pub numbers_within : Ok tt ≡ numbers_checked place t → LinksWithin (view t)
  unfolding view
  numbers_within e s lt =
      let x = get_or t.symbols s no_symbol in
      link_passes (length t.modules) (length t.symbols) s x
      (each_passes _ 0 t.symbols (symbols_pass e) s s x (omega arith) (sym (slice_get-get_or t.symbols s no_symbol lt)))
