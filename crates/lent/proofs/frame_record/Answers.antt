-- `frame_record` meets its contract: the frame is taken on a copy of the record, and all but the map is put back. Assumes nothing.
use mathlib.Core.Path.{◌≡◌, ap, ◌∙◌}
use borrow.Author.Rules.{rules}
use mir.Syntax.{w32}
use mir.Val.{to_z, of_z}
use Rattle.range.proofs.Ranges.{in_range_rest}
use Rattle.dock.specs.Calls.{Frame}
use Rattle.dock.proofs.Framing.{frame_taken}
use Rattle.lent.specs.Lent.{answered_done}
use Rattle.lent.proofs.Lending.{found, found_in_range, room_after, called_lent, frame_put}
use Rattle.lent.proofs.frame_record.Goals as goal

pub frame_in_place-answer-requires : goal.frame_in_place-answer-requires
frame_in_place-answer-requires c =
    let here = found c.requires c.map_in.ensures c.types_in.ensures c.closed_in.ensures c.counts_in.ensures c.held_in.ensures c.rest_in.ensures in
    in_range_rest _ (found_in_range here)

pub put_types-requires : goal.put_types-requires
put_types-requires c =
    let here = found c.requires c.map_in.ensures c.types_in.ensures c.closed_in.ensures c.counts_in.ensures c.held_in.ensures c.rest_in.ensures in
    room_after (Frame _) _ _ here _ (ap answered_done (c.frame_in_place-answer.ensures ∙ frame_taken _ _ (found_in_range here)))

pub returns : goal.returns
returns c =
    let here = found c.requires c.map_in.ensures c.types_in.ensures c.closed_in.ensures c.counts_in.ensures c.held_in.ensures c.rest_in.ensures in
    let made = ap answered_done (c.frame_in_place-answer.ensures ∙ frame_taken _ _ (found_in_range here)) in
    let called = called_lent (Frame _) _ _ here _ made _ (c.put_types.ensures ∙ frame_put _ _ here _ _ made) in
    let number = c.answer_number.result in
    let fits : to_z w32 (of_z w32 number) ≡ number = search rules in
    record { answer = fits ∙ c.answer_number.ensures ∙ called.answer; bytes = called.bytes }
