-- `keydock_indicators` meets its contract: the byte of the lamps is looked up in the record. Assumes nothing.
use mathlib.Core.Path.{◌≡◌, ◌∙◌}
use borrow.Author.Rules.{rules}
use mir.Syntax.{w32}
use mir.Val.{to_z, of_z}
use Rattle.lent.proofs.Lending.{no_lamps, lamps}
use Rattle.lent.proofs.keydock_indicators.Goals as goal

pub returns-in-Some : goal.returns-in-Some
returns-in-Some c =
    let fits : to_z w32 (of_z w32 c.from.result) ≡ c.from.result = search rules in
    fits ∙ c.from.ensures ∙ lamps _ _ c.in-Some.ensures _ c.rest_in.ensures

pub returns-in-None : goal.returns-in-None
returns-in-None c = no_lamps _ c.in-None.ensures
