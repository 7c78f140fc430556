-- `keydock_scanning` meets its contract: the flag is looked up in the record. Assumes nothing.
use mathlib.Core.Path.{◌≡◌, ap, ◌∙◌}
use borrow.Author.Rules.{rules}
use mir.Syntax.{w32}
use mir.Val.{to_z, of_z}
use lib.IntN.{pos}
use Rattle.layout.proofs.Putting.{flag_byte}
use Rattle.lent.proofs.Lending.{no_flag, flag_found}
use Rattle.lent.proofs.keydock_scanning.Goals as goal

pub returns-in-Some : goal.returns-in-Some
returns-in-Some c =
    let fits : to_z w32 (of_z w32 c.from.result) ≡ c.from.result = search rules in
    fits ∙ c.from.ensures ∙ ap pos (flag_byte _) ∙ flag_found _ _ c.in-Some.ensures _ c.rest_in.ensures

pub returns-in-None : goal.returns-in-None
returns-in-None c = no_flag _ c.in-None.ensures
