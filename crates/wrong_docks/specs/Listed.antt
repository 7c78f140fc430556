-- Each wrong dock, with a run that breaks demand 3 and the key that it is about. On a plain panel the 2, key 3, is row 2 of column 0, and
-- the 5, key 6, row 5. Assumes nothing.
use Rattle.std.specs.Prelude.{ℕ, List, [], ◌∷◌, ◌++◌, replicate, set}
use Rattle.frames.specs.Frames.{packed_of}
use Rattle.record.specs.Power.{plain_map}
use Rattle.dock.specs.Calls.{Call, Swap, Frame}
use Rattle.runs.specs.Stories.{reads, host, scans, nothing, showing, showing_too}
use Rattle.runs.specs.Told.{twelve, media_panel}
use Rattle.wrong_docks.specs.Breaking.{Wrong, wrong}
use Rattle.wrong_docks.specs.AtScans.{counts_while_command_waits, counts_while_scanning_off, counts_during_handover, counts_phantoms, counts_twice, phantom_next_door, two_open_are_enough, takes_short_scans, phantom_breaks_row, passed_over_breaks_row, handles_first_scan_only, deaf_while_reply_waits, deaf_while_full, queue_of15, sends_nothing, repeat_goes_on_after_release, repeats_overrun}
use Rattle.wrong_docks.specs.AtSwaps.{keeps_held_keys, forgets_held_keys, forgets_media_keys, drops_releases, swap_overruns, hands_when_empty, deaf_after_swap, keeps_old_map, keeps_history, keeps_repeating, swap_clears_queue, second_swap_ignored, second_swap_ends_handover, refuses_media_keys, takes_doubles}
use Rattle.wrong_docks.specs.AtFrames.{deaf_after_identify, default_keeps_the_set, default_forgets_history, enable_forgets_history, disable_keeps_scanning, indicators_clear, set_not_chosen, question_chooses, question_leaves_wait, wrong_value_ends_wait, resend_ends_wait, broken_ends_wait, ef_leaves_wait, reset_loses_map, reset_keeps_scanning_off, reset_keeps_history, frames_leave_handover, any_parity}
use Rattle.wrong_docks.specs.AtReads.{reads_nothing, one_constant_byte, one_wrong_byte}

-- The 2 is held down for three scans, and its code is read.
unfoldable pub two_pressed : List Call
two_pressed = scans 3 (showing 0 4) ++ reads 1

-- A panel on which the 2 and the 3 have changed places.
unfoldable pub swapped_places : List ℕ
swapped_places = set (set plain_map 2 4) 3 3

-- Twelve keys and three more, whose presses are 16 bytes.
unfoldable pub fifteen : List ℕ
fifteen = showing_too 7 1 (showing_too 6 1 (showing_too 5 1 twelve))

-- All of them, with their runs.
unfoldable pub wrong_docks : List Wrong
wrong_docks =
    -- At swaps.
    wrong keeps_held_keys (reads 1) (two_pressed ++ Swap plain_map ∷ reads 2) 3 ∷
    wrong forgets_held_keys (reads 1) (two_pressed ++ Swap plain_map ∷ reads 2) 3 ∷
    wrong forgets_media_keys (reads 1) (Swap media_panel ∷ scans 3 (showing 0 4) ++ reads 2 ++ Swap plain_map ∷ reads 1) 105 ∷
    wrong drops_releases (reads 1) (scans 3 twelve ++ reads 12 ++ Swap plain_map ∷ reads 24) 33 ∷
    wrong swap_overruns (reads 1) (scans 3 twelve ++ reads 12 ++ Swap plain_map ∷ reads 24) 33 ∷
    wrong hands_when_empty (reads 1)
    (scans 3 twelve ++ reads 12 ++ Swap plain_map ∷ reads 15 ++ scans 2 (showing 0 4) ++ reads 10 ++ scans 1 (showing 0 4) ++ reads 1) 3 ∷
    wrong deaf_after_swap (reads 1) (two_pressed ++ Swap plain_map ∷ scans 3 (showing 0 0x20) ++ reads 3) 6 ∷
    wrong keeps_old_map (reads 1) (Swap swapped_places ∷ two_pressed) 4 ∷
    wrong keeps_history (reads 1) (scans 2 (showing 0 4) ++ Swap plain_map ∷ scans 1 (showing 0 4) ++ reads 1) 3 ∷
    wrong keeps_repeating (reads 1 ++ host 0xf3 ++ host 0)
    (two_pressed ++ Swap plain_map ∷ reads 2 ++ scans 60 nothing ++ reads 1) 3 ∷
    wrong swap_clears_queue (reads 1) (two_pressed ++ scans 3 nothing ++ Swap plain_map ∷ reads 2) 3 ∷
    wrong second_swap_ignored (reads 1) (scans 3 twelve ++ reads 12 ++ Swap plain_map ∷ Swap swapped_places ∷ reads 24 ++ two_pressed) 4 ∷
    wrong second_swap_ends_handover (reads 1) (scans 3 twelve ++ reads 12 ++ Swap plain_map ∷ Swap swapped_places ∷ reads 24) 33 ∷
    wrong refuses_media_keys (reads 1) (Swap media_panel ∷ scans 3 (showing 0 4) ++ reads 2) 105 ∷
    wrong takes_doubles (reads 1) (Swap (set plain_map 3 3) ∷ scans 3 (showing 0 8) ++ reads 1) 4 ∷
    -- At scans.
    wrong counts_while_command_waits (reads 1) (host 0xed ++ two_pressed) 3 ∷
    wrong counts_while_scanning_off (reads 1 ++ host 0xf5) two_pressed 3 ∷
    wrong counts_during_handover (reads 1) (scans 3 twelve ++ reads 12 ++ Swap plain_map ∷ scans 3 (showing 9 8) ++ reads 26) 8 ∷
    wrong counts_phantoms (reads 1) (scans 3 (showing_too 1 3 (showing 0 3)) ++ reads 4) 1 ∷
    wrong counts_twice (reads 1) (scans 2 (showing 0 4) ++ reads 1) 3 ∷
    wrong phantom_next_door (reads 1) (scans 3 (showing_too 2 3 (showing 0 3)) ++ reads 4) 1 ∷
    wrong two_open_are_enough (reads 1) (two_pressed ++ scans 2 nothing ++ reads 2) 3 ∷
    wrong takes_short_scans (reads 1) (scans 3 (4 ∷ replicate 16 0) ++ reads 1) 3 ∷
    wrong phantom_breaks_row (reads 1) (scans 2 (showing 0 4) ++ scans 1 (showing_too 1 3 (showing 0 3)) ++ scans 1 (showing 0 4) ++ reads 1) 3 ∷
    wrong passed_over_breaks_row (reads 1) (scans 2 (showing 0 4) ++ host 0xed ++ scans 1 nothing ++ host 0 ++ scans 1 (showing 0 4) ++ reads 1) 3 ∷
    wrong handles_first_scan_only (reads 1) two_pressed 3 ∷
    wrong deaf_while_reply_waits (reads 1) (Frame (packed_of 0xee) ∷ two_pressed ++ reads 1) 3 ∷
    wrong deaf_while_full (reads 1)
    (scans 3 twelve ++ scans 3 fifteen ++ scans 2 (showing_too 8 1 fifteen) ++ reads 16 ++ scans 1 (showing_too 8 1 fifteen) ++ reads 4) 65 ∷
    wrong queue_of15 (reads 1) (scans 3 twelve ++ scans 3 fifteen ++ reads 16) 41 ∷
    wrong sends_nothing (reads 1) two_pressed 3 ∷
    wrong repeat_goes_on_after_release (reads 1 ++ host 0xf3 ++ host 0) (two_pressed ++ scans 3 nothing ++ reads 2 ++ scans 60 nothing ++ reads 1) 3 ∷
    wrong repeats_overrun (reads 1 ++ host 0xf3 ++ host 0) (scans 3 twelve ++ scans 63 fifteen ++ reads 16) 57 ∷
    -- At frames.
    wrong deaf_after_identify (reads 1) (Frame (packed_of 0xf2) ∷ reads 3 ++ two_pressed) 3 ∷
    wrong default_keeps_the_set (reads 1 ++ host 0xf0 ++ host 1 ++ host 0xf6) two_pressed 3 ∷
    wrong default_forgets_history (reads 1 ++ scans 2 (showing 0 4) ++ host 0xf6) (scans 1 (showing 0 4) ++ reads 1) 3 ∷
    wrong enable_forgets_history (reads 1 ++ scans 2 (showing 0 4) ++ host 0xf4) (scans 1 (showing 0 4) ++ reads 1) 3 ∷
    wrong disable_keeps_scanning (reads 1 ++ host 0xf5) two_pressed 3 ∷
    wrong indicators_clear (reads 1) (scans 3 (showing 0 4) ++ Frame (packed_of 0xed) ∷ host 0 ++ reads 1) 3 ∷
    wrong set_not_chosen (reads 1 ++ host 0xf0 ++ host 1) two_pressed 3 ∷
    wrong question_chooses (reads 1 ++ host 0xf0 ++ host 0 ++ reads 1) two_pressed 3 ∷
    wrong question_leaves_wait (reads 1 ++ host 0xf0 ++ host 0 ++ reads 1) two_pressed 3 ∷
    wrong wrong_value_ends_wait (reads 1) (host 0xf3 ++ host 0x80 ++ two_pressed) 3 ∷
    wrong resend_ends_wait (reads 1) (host 0xf3 ++ host 0xfe ++ two_pressed) 3 ∷
    wrong broken_ends_wait (reads 1) (host 0xf3 ++ Frame 0 ∷ reads 1 ++ two_pressed) 3 ∷
    wrong ef_leaves_wait (reads 1) (host 0xf3 ++ host 0xef ++ two_pressed) 3 ∷
    wrong reset_loses_map (Swap swapped_places ∷ host 0xff ++ reads 1) two_pressed 4 ∷
    wrong reset_keeps_scanning_off (reads 1 ++ host 0xf5 ++ host 0xff ++ reads 1) two_pressed 3 ∷
    wrong reset_keeps_history (reads 1 ++ scans 2 (showing 0 4) ++ host 0xff ++ reads 1) (scans 1 (showing 0 4) ++ reads 1) 3 ∷
    wrong frames_leave_handover
    (reads 1 ++ scans 3 twelve ++ reads 12 ++ Swap plain_map ∷ Frame (packed_of 0xf4) ∷ scans 1 (showing 0 4) ++ reads 9)
    (scans 2 (showing 0 4) ++ reads 1) 3 ∷
    wrong any_parity (reads 1) (two_pressed ++ scans 3 nothing ++ Frame 0x7e8 ∷ reads 3) 3 ∷
    -- At reads.
    wrong reads_nothing [] (two_pressed) 3 ∷
    wrong one_constant_byte (reads 1) two_pressed 3 ∷
    wrong one_wrong_byte (reads 1) two_pressed 3 ∷
    []
