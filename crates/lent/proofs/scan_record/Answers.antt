-- `scan_record` meets its contract: the scan is made on a copy of the record, and all but map and types is put back. Assumes nothing.
use mathlib.Core.Path.{◌≡◌, ap, ◌∙◌}
use borrow.Author.Rules.{rules}
use mir.Syntax.{w32}
use mir.Val.{to_z, of_z}
use Rattle.dock.specs.Calls.{Scan}
use Rattle.lent.specs.Lent.{answered_done}
use Rattle.lent.proofs.Lending.{found, found_in_range, room_after, called_lent, scan_put}
use Rattle.lent.proofs.scan_record.Goals as goal

pub scan_in_place-answer-requires : goal.scan_in_place-answer-requires
scan_in_place-answer-requires c =
    let here = found c.requires c.map_in.ensures c.types_in.ensures c.closed_in.ensures c.counts_in.ensures c.held_in.ensures c.rest_in.ensures in
    found_in_range here

pub put_contacts-requires : goal.put_contacts-requires
put_contacts-requires c =
    let here = found c.requires c.map_in.ensures c.types_in.ensures c.closed_in.ensures c.counts_in.ensures c.held_in.ensures c.rest_in.ensures in
    room_after (Scan _) _ _ here _ (ap answered_done c.scan_in_place-answer.ensures)

pub returns : goal.returns
returns c =
    let here = found c.requires c.map_in.ensures c.types_in.ensures c.closed_in.ensures c.counts_in.ensures c.held_in.ensures c.rest_in.ensures in
    let made = ap answered_done c.scan_in_place-answer.ensures in
    let called = called_lent (Scan _) _ _ here _ made _ (c.put_contacts.ensures ∙ scan_put _ _ here _ _ made) in
    let number = c.answer_number.result in
    let fits : to_z w32 (of_z w32 number) ≡ number = search rules in
    record { answer = fits ∙ c.answer_number.ensures ∙ called.answer; bytes = called.bytes }
