-- `read_record` meets its contract: the byte is given from a copy of what a read looks at, and held keys and the rest are put back. Assumes nothing.
use mathlib.Core.Path.{◌≡◌, ◌∙◌}
use borrow.Author.Rules.{rules}
use mir.Syntax.{w32}
use mir.Val.{to_z, of_z}
use Rattle.lent.proofs.Lending.{read_ready, read_room, read_lent}
use Rattle.lent.proofs.read_record.Goals as goal

pub read_in_place-given-requires : goal.read_in_place-given-requires
read_in_place-given-requires c = read_ready _ c.requires c.rest_in.ensures

pub put_held-requires : goal.put_held-requires
put_held-requires c = read_room _ c.requires c.rest_in.ensures c.types_in.ensures c.held_in.ensures _ _ _ _ _ c.read_in_place-given.ensures

pub returns : goal.returns
returns c =
    let called = read_lent _ c.requires c.rest_in.ensures c.types_in.ensures c.held_in.ensures _ _ _ _ _ c.read_in_place-given.ensures _ c.put_held.ensures in
    let number = c.given_number.result in
    let fits : to_z w32 (of_z w32 number) ≡ number = search rules in
    record { answer = fits ∙ c.given_number.ensures ∙ called.answer; bytes = called.bytes }
