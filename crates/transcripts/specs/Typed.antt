-- What the terminal is sent: forms, marks and types, in transcripts from power-on (docs/RULES.md, sections 3, 5, 7 and 11). On a plain
-- panel SHIFT_L is row 1 of column 5, UP row 0 of column 8, and PAUSE row 4 of column 12. Assumes nothing.
use Rattle.std.specs.Prelude.{List, [], ◌∷◌, ◌++◌, ℕ, set}
use Rattle.record.specs.Power.{plain_map}
use Rattle.dock.specs.Calls.{Swap}
use Rattle.runs.specs.Stories.{reads, host, scans, nothing, showing, showing_too}
use Rattle.runs.specs.Told.{twelve, media_panel}
use Rattle.transcripts.specs.Transcripts.{Transcript, transcript}

-- The right SHIFT, row 4 of column 6, wraps with its own code.
abbrev pub right_shift : Transcript
right_shift =
    transcript (reads 1)
    (scans 3 (showing_too 8 1 (showing 6 0x10)) ++ reads 6 ++ scans 3 (showing 6 0x10) ++ reads 5)
    (0x59 ∷ 0xe0 ∷ 0xf0 ∷ 0x59 ∷ 0xe0 ∷ 0x75 ∷ 0xe0 ∷ 0xf0 ∷ 0x75 ∷ 0xe0 ∷ 0x59 ∷ [])

abbrev pub right_shift_in_set1 : Transcript
right_shift_in_set1 =
    transcript (reads 1 ++ host 0xf0 ++ host 1)
    (scans 3 (showing_too 8 1 (showing 6 0x10)) ++ reads 5 ++ scans 3 (showing 6 0x10) ++ reads 4)
    (0x36 ∷ 0xe0 ∷ 0xb6 ∷ 0xe0 ∷ 0x48 ∷ 0xe0 ∷ 0xc8 ∷ 0xe0 ∷ 0x36 ∷ [])

-- Num Lock: UP comes up in its form too; keypad /, row 5 of column 8, has none, but is wrapped under SHIFT all the same.
abbrev pub under_num_lock : Transcript
under_num_lock =
    transcript (reads 1 ++ host 0xed ++ host 2)
    (scans 3 (showing 8 1) ++ reads 4 ++ scans 3 (showing 8 0x20) ++ reads 8 ++ scans 3 nothing ++ reads 3 ++ scans 3 (showing_too 8 0x20 (showing 5 2)) ++ reads 6 ++ scans 3 (showing 5 2) ++ reads 5)
    (0xe0 ∷ 0x12 ∷ 0xe0 ∷ 0x75 ∷ 0xe0 ∷ 0xf0 ∷ 0x75 ∷ 0xe0 ∷ 0xf0 ∷ 0x12 ∷ 0xe0 ∷ 0x4a ∷ 0xe0 ∷ 0xf0 ∷ 0x4a ∷ 0x12 ∷ 0xe0 ∷ 0xf0 ∷ 0x12 ∷ 0xe0 ∷ 0x4a ∷ 0xe0 ∷ 0xf0 ∷ 0x4a ∷ 0xe0 ∷ 0x12 ∷ [])

-- PRINT, row 2 of column 12: alone, with CTRL_R (row 1 of column 7), and with both it and ALT_L (row 6 of column 6).
abbrev pub print_forms : Transcript
print_forms =
    transcript (reads 1)
    (scans 3 (showing 12 4) ++ reads 4 ++ scans 3 nothing ++ reads 6 ++ scans 3 (showing_too 12 4 (showing 7 2)) ++ reads 4 ++ scans 3 (showing 7 2) ++ reads 3 ++ scans 3 (showing_too 12 4 (showing_too 7 2 (showing 6 0x40))) ++ reads 2 ++ scans 3 (showing_too 7 2 (showing 6 0x40)) ++ reads 2)
    (0xe0 ∷ 0x12 ∷ 0xe0 ∷ 0x7c ∷ 0xe0 ∷ 0xf0 ∷ 0x7c ∷ 0xe0 ∷ 0xf0 ∷ 0x12 ∷ 0xe0 ∷ 0x14 ∷ 0xe0 ∷ 0x7c ∷ 0xe0 ∷ 0xf0 ∷ 0x7c ∷ 0x11 ∷ 0x84 ∷ 0xf0 ∷ 0x84 ∷ [])

-- PAUSE with CTRL_R: all at once, and nothing when it comes up.
abbrev pub ctrl_pause_struck : Transcript
ctrl_pause_struck =
    transcript (reads 1)
    (scans 3 (showing_too 12 0x10 (showing 7 2)) ++ reads 7 ++ scans 3 (showing 7 2) ++ reads 1)
    (0xe0 ∷ 0x14 ∷ 0xe0 ∷ 0x7e ∷ 0xe0 ∷ 0xf0 ∷ 0x7e ∷ [])

-- The reset forgets a SHIFT that is held, and Num Lock: UP is not wrapped.
abbrev pub reset_forgets_shift : Transcript
reset_forgets_shift =
    transcript (reads 1 ++ scans 3 (showing 5 2) ++ reads 1 ++ host 0xed ++ host 2 ++ host 0xff ++ reads 1)
    (scans 3 (showing 8 1) ++ reads 2)
    (0xe0 ∷ 0x75 ∷ [])

-- So does an overrun: the SHIFT whose release does not fit is not held any more. All twelve and SHIFT come up in one scan.
abbrev pub overrun_forgets_shift : Transcript
overrun_forgets_shift =
    transcript (reads 1 ++ scans 3 (showing_too 5 2 twelve) ++ reads 13 ++ scans 3 nothing ++ reads 16)
    (scans 3 (showing 8 1) ++ reads 2)
    (0xe0 ∷ 0x75 ∷ [])

-- F6 leaves a SHIFT held: UP is wrapped.
abbrev pub default_keeps_shift : Transcript
default_keeps_shift =
    transcript (reads 1)
    (scans 3 (showing 5 2) ++ reads 1 ++ host 0xf6 ++ scans 3 (showing_too 8 1 (showing 5 2)) ++ reads 5)
    (0x12 ∷ 0xe0 ∷ 0xf0 ∷ 0x12 ∷ 0xe0 ∷ 0x75 ∷ [])

-- The mark of set 1.
abbrev pub mark_in_set1 : Transcript
mark_in_set1 =
    transcript (reads 1 ++ host 0xf0 ++ host 1)
    (scans 3 twelve ++ scans 3 nothing ++ reads 16)
    (0x29 ∷ 0x02 ∷ 0x03 ∷ 0x04 ∷ 0x05 ∷ 0x06 ∷ 0x07 ∷ 0x08 ∷ 0x09 ∷ 0x11 ∷ 0x19 ∷ 0x21 ∷ 0xa9 ∷ 0x82 ∷ 0x83 ∷ 0xff ∷ [])

-- Set 3: what the types do. By default the A, row 5 of column 3, is Typematic and comes up without a byte; F8 makes all keys Make/Break,
-- and FD 1C makes it Make again.
abbrev pub types_in_set3 : Transcript
types_in_set3 =
    transcript (reads 1 ++ host 0xf0 ++ host 3)
    (scans 3 (showing 3 0x20) ++ reads 1 ++ scans 3 nothing ++ reads 1 ++ host 0xf8 ++ scans 3 (showing 3 0x20) ++ reads 1 ++ scans 3 nothing ++ reads 2 ++ host 0xfd ++ host 0x1c ++ scans 3 (showing 3 0x20) ++ reads 1 ++ scans 3 nothing ++ reads 1 ++ host 0xfa ++ scans 3 (showing 3 0x20) ++ reads 1 ++ scans 3 nothing ++ reads 2)
    (0x1c ∷ 0x1c ∷ 0xf0 ∷ 0x1c ∷ 0x1c ∷ 0x1c ∷ 0xf0 ∷ 0x1c ∷ [])

-- A media key, here WWW-BACK in the place of the 2, follows neither SHIFT nor Num Lock.
abbrev pub media_plain : Transcript
media_plain =
    transcript (reads 1 ++ host 0xed ++ host 2 ++ Swap media_panel ∷ [])
    (scans 3 (showing 5 2) ++ reads 1 ++ scans 3 (showing_too 0 4 (showing 5 2)) ++ reads 2 ++ scans 3 (showing 5 2) ++ reads 3)
    (0x12 ∷ 0xe0 ∷ 0x38 ∷ 0xe0 ∷ 0xf0 ∷ 0x38 ∷ [])

abbrev pub media_in_set1 : Transcript
media_in_set1 =
    transcript (reads 1 ++ host 0xf0 ++ host 1 ++ Swap media_panel ∷ [])
    (scans 3 (showing 0 4) ++ reads 2 ++ scans 3 nothing ++ reads 2)
    (0xe0 ∷ 0x6a ∷ 0xe0 ∷ 0xea ∷ [])

-- In set 3 it sends nothing, though FA was to make all keys send presses and releases. Pressed there and released in set 2, it sends its
-- release; pressed in set 2 and released in set 3, its press.
abbrev pub media_in_set3 : Transcript
media_in_set3 =
    transcript (reads 1 ++ host 0xf0 ++ host 3 ++ host 0xfa ++ Swap media_panel ∷ [])
    (scans 3 (showing 0 4) ++ scans 3 nothing ++ scans 3 (showing 0 4) ++ reads 1 ++ host 0xf0 ++ host 2 ++ scans 3 nothing ++ reads 3 ++ scans 3 (showing 0 4) ++ reads 2 ++ host 0xf0 ++ host 3 ++ scans 3 nothing ++ reads 1)
    (0xe0 ∷ 0xf0 ∷ 0x38 ∷ 0xe0 ∷ 0x38 ∷ [])

-- A swap in set 3 has nothing to release of it: the 5, row 5 of column 0, is typed on the next panel at once.
abbrev pub media_leaves_in_set3 : Transcript
media_leaves_in_set3 =
    transcript (reads 1 ++ host 0xf0 ++ host 3 ++ host 0xfa ++ Swap media_panel ∷ [])
    (scans 3 (showing 0 4) ++ Swap plain_map ∷ scans 3 (showing 0 0x20) ++ reads 2)
    (0x2e ∷ [])

-- Sixteen keys fill the queue of set 3. A media key, row 0 of column 9, leaves no mark there.
unfoldable pub sixteen : List ℕ
sixteen = showing_too 8 1 (showing_too 7 1 (showing_too 6 1 (showing_too 5 1 twelve)))

abbrev pub media_marks_nothing : Transcript
media_marks_nothing =
    transcript (reads 1 ++ host 0xf0 ++ host 3 ++ Swap (set plain_map 72 105) ∷ [])
    (scans 3 sixteen ++ scans 3 (showing_too 9 1 sixteen) ++ reads 17)
    (0x0e ∷ 0x16 ∷ 0x1e ∷ 0x26 ∷ 0x25 ∷ 0x2e ∷ 0x36 ∷ 0x3d ∷ 0x3e ∷ 0x1d ∷ 0x4d ∷ 0x2b ∷ 0x5a ∷ 0x3a ∷ 0x39 ∷ 0x63 ∷ [])

-- Scroll and Caps are not Num Lock.
abbrev pub other_indicators : Transcript
other_indicators =
    transcript (reads 1 ++ host 0xed ++ host 5)
    (scans 3 (showing 8 1) ++ reads 2)
    (0xe0 ∷ 0x75 ∷ [])

-- All of them.
unfoldable pub typed : List Transcript
typed =
    right_shift ∷ right_shift_in_set1 ∷ under_num_lock ∷ print_forms ∷ ctrl_pause_struck ∷ reset_forgets_shift ∷ overrun_forgets_shift ∷ default_keeps_shift ∷ mark_in_set1 ∷ types_in_set3 ∷ media_plain ∷ media_in_set1 ∷ media_in_set3 ∷ media_leaves_in_set3 ∷ media_marks_nothing ∷ other_indicators ∷ []
