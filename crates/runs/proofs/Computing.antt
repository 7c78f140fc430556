-- All that a run computes through. A proof that runs a dock on values says `unfolding run_on_values`, which opens every definition that is
-- named here. If one is missing, the two sides stand still and `refl` is refused: add it. Assumes nothing.
use lib.Count.{ones, ones_in}
use Rattle.basics.specs.Lists.{all_up_to, same}
use Rattle.record.specs.Power.{count_up, plain_map, default_types, fresh_with, power_on}
use Rattle.range.specs.Range.{in_range, good_rest, good_mode, good_outgoing}
use Rattle.record.specs.Held.{modifiers_of}
use Rattle.queue.specs.Queues.{waiting, queue_of, tidy, pushed_to, last_replaced}
use Rattle.replies.specs.Replies.{waiting_replies, replies_of, tidy_replies}
use Rattle.keys.specs.Keys.{rows, row_of, code_in}
use Rattle.lookup.specs.Lookup.{key_with, first_with}
use Rattle.codes.specs.Codes.{encode, bytes_of, form_of, cursor_form, shift_form, print_form, pause_form, before, after, make_of, break_of, prefix, code_of, sends_release, may_repeat, pause_bytes}
use Rattle.contacts.specs.Scans.{contact}
use Rattle.phantom.specs.Phantom.{is_phantom, shares_any}
use Rattle.contacts.specs.Counts.{counted_of}
use Rattle.sending.specs.Sending.{sends, queued_of}
use Rattle.keying.specs.Changes.{pressed, released_with, released, moved, turned, turns_to}
use Rattle.keying.specs.Repeat.{delay_of, interval_of, repeated}
use Rattle.keying.specs.Handover.{handed_from}
use Rattle.frames.specs.Frames.{parity, packed_of, whole, unpacked_of}
use Rattle.commands.specs.Commands.{obeyed, reply_to, commanded}
use Rattle.host.specs.Values.{asked_of, valued, took_byte}
use Rattle.maps.specs.Maps.{is_in, has_double}
use Rattle.dock.specs.Closing.{closing}
use Rattle.dock.specs.Scan.{listening, is_counted, counting, changed, repeating, heard_scan, scanned, scan_of}
use Rattle.dock.specs.Swap.{opened, remapped, swapped, swap_of}
use Rattle.dock.specs.Frame.{took_frame, frame_of}
use Rattle.dock.specs.Read.{remembering, reply_taken, key_byte_taken, read, read_of}
use Rattle.reader.specs.Reader.{heard, in_set1, in_set2, in_set3, read_byte}
use Rattle.history.specs.Rows.{three_first, three_in_a_row, says_closed}
use Rattle.history.specs.Scans.{shown_at}
use Rattle.telling.specs.Queued.{move_bytes, turn_bytes_at, turn_bytes}
use Rattle.terminal.specs.Terminals.{begun, hears}
use Rattle.runs.specs.Clearing.{clears, is_clearing}
use Rattle.runs.specs.Onlookers.{at_power_on, is_counted_by, saw_scan, is_map, saw_swap, scanning_after, waiting_after, set_after, saw_byte}
use Rattle.runs.specs.Rules.{one_of, numbers_from, in_common, shares_two, looks_phantom, set_three_codes, sets, values_for, waits_for_value}
use Rattle.runs.specs.Machines.{lowest_from, finds_no_room, key_left}
use Rattle.runs.specs.Worlds.{woken, next, after_calls}
use Rattle.runs.specs.Runs.{none_held_from, may_begin, turning_bytes, overruns, undisturbed}
use Rattle.runs.specs.Stories.{host, nothing, showing, showing_too}
use Rattle.runs.specs.Told.{twelve, twelve_pressed, twelve_released, media_panel}

-- One word for them all.
unfoldable pub run_on_values : Unit {0}
unfolding
    ones ones_in
    all_up_to same
    count_up plain_map default_types fresh_with power_on in_range good_rest good_mode good_outgoing modifiers_of
    waiting queue_of tidy waiting_replies replies_of tidy_replies pushed_to last_replaced
    rows row_of code_in
    key_with first_with
    encode bytes_of form_of cursor_form shift_form print_form pause_form before after make_of break_of prefix code_of sends_release
    may_repeat pause_bytes
    contact is_phantom shares_any counted_of
    sends queued_of
    pressed released_with released moved turned turns_to delay_of interval_of repeated handed_from
    parity packed_of whole unpacked_of
    obeyed reply_to commanded asked_of valued took_byte
    is_in has_double
    closing listening is_counted counting changed repeating heard_scan scanned scan_of opened remapped swapped swap_of took_frame
    frame_of remembering reply_taken key_byte_taken read read_of
    heard in_set1 in_set2 in_set3 read_byte
    three_first three_in_a_row says_closed shown_at
    move_bytes turn_bytes_at turn_bytes
    begun hears
    clears is_clearing at_power_on is_counted_by saw_scan is_map saw_swap scanning_after waiting_after set_after saw_byte
    one_of numbers_from in_common shares_two looks_phantom set_three_codes sets values_for waits_for_value lowest_from finds_no_room key_left
    woken next after_calls none_held_from may_begin turning_bytes
    overruns undisturbed host nothing showing showing_too
    twelve twelve_pressed twelve_released media_panel
run_on_values = tt
