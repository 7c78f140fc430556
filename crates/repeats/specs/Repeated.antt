-- When and how keys repeat, in transcripts from power-on (docs/RULES.md, sections 6, 8 and 11). On a plain panel the 2 is row 2 of column 0
-- and the 3 row 3; UP is row 0 of column 8, PAUSE row 4 of column 12, and the A row 5 of column 3. Assumes nothing.
use Rattle.std.specs.Prelude.{List, [], ◌∷◌, ◌++◌}
use Rattle.frames.specs.Frames.{packed_of}
use Rattle.record.specs.Power.{plain_map}
use Rattle.dock.specs.Calls.{Call, Swap, Frame}
use Rattle.runs.specs.Stories.{reads, host, scans, nothing, showing, showing_too}
use Rattle.runs.specs.Told.{media_panel}
use Rattle.transcripts.specs.Transcripts.{Transcript, transcript}

-- The quickest rate is chosen, F3 00: a repeat after 60 scans, and then every 8.
unfoldable pub quickest : List Call
quickest = reads 1 ++ host 0xf3 ++ host 0

-- Pressed at the third scan, a key repeats 60 scans after it, and not before: a swap after 59 finds nothing that repeats.
abbrev pub not_before : Transcript
not_before = transcript quickest (scans 3 (showing 0 4) ++ reads 1 ++ scans 59 (showing 0 4) ++ Swap plain_map ∷ reads 3) (0x1e ∷ 0xf0 ∷ 0x1e ∷ [])

-- A repeat that falls due while a reply waits is lost, and the next one comes an interval later: not after 7 scans,
abbrev pub repeat_lost : Transcript
repeat_lost =
    transcript quickest
    (scans 3 (showing 0 4) ++ reads 1 ++ scans 59 (showing 0 4) ++ Frame (packed_of 0xee) ∷ scans 1 (showing 0 4) ++ reads 1 ++ scans 7 (showing 0 4) ++ Swap plain_map ∷ reads 3)
    (0x1e ∷ 0xf0 ∷ 0x1e ∷ [])

-- but after 8.
abbrev pub repeat_after_lost : Transcript
repeat_after_lost =
    transcript quickest
    (scans 3 (showing 0 4) ++ reads 1 ++ scans 59 (showing 0 4) ++ Frame (packed_of 0xee) ∷ scans 1 (showing 0 4) ++ reads 1 ++ scans 8 (showing 0 4) ++ reads 1 ++ Swap plain_map ∷ reads 3)
    (0x1e ∷ 0x1e ∷ 0xf0 ∷ 0x1e ∷ [])

-- Scans that come while a command waits do not count for the repeat, phantom ones do.
abbrev pub repeat_time : Transcript
repeat_time =
    transcript quickest
    (scans 3 (showing 0 4) ++ reads 1 ++ scans 30 (showing 0 4) ++ host 0xed ++ scans 40 (showing 0 4) ++ host 0 ++ scans 29 (showing_too 1 3 (showing 0 3)) ++ reads 1 ++ Swap plain_map ∷ reads 3)
    (0x1e ∷ 0xf0 ∷ 0x1e ∷ [])

abbrev pub repeat_in_phantom : Transcript
repeat_in_phantom =
    transcript quickest
    (scans 3 (showing 0 4) ++ reads 1 ++ scans 60 (showing_too 1 3 (showing 0 3)) ++ reads 1 ++ Swap plain_map ∷ reads 3)
    (0x1e ∷ 0x1e ∷ 0xf0 ∷ 0x1e ∷ [])

-- Only the key pressed last repeats: when the 3 comes up, the 2 does not take over.
abbrev pub none_takes_over : Transcript
none_takes_over =
    transcript quickest
    (scans 3 (showing 0 4) ++ scans 3 (showing 0 12) ++ scans 3 (showing 0 4) ++ reads 4 ++ scans 68 (showing 0 4) ++ reads 1)
    (0x1e ∷ 0x26 ∷ 0xf0 ∷ 0x26 ∷ [])

-- PAUSE does not repeat, and ends the repeat of another.
abbrev pub pause_ends_repeat : Transcript
pause_ends_repeat =
    transcript quickest
    (scans 3 (showing 0 4) ++ reads 1 ++ scans 3 (showing_too 12 0x10 (showing 0 4)) ++ reads 8 ++ scans 68 (showing_too 12 0x10 (showing 0 4)) ++ reads 1 ++ Swap plain_map ∷ reads 2)
    (0x1e ∷ 0xe1 ∷ 0x14 ∷ 0x77 ∷ 0xe1 ∷ 0xf0 ∷ 0x14 ∷ 0xf0 ∷ 0x77 ∷ 0xf0 ∷ 0x1e ∷ [])

-- A media key, in the place of the 2, repeats like any other, and takes over from the 5, row 5 of column 0.
abbrev pub media_takes_over : Transcript
media_takes_over =
    transcript (quickest ++ Swap media_panel ∷ [])
    (scans 3 (showing 0 0x20) ++ reads 1 ++ scans 3 (showing 0 0x24) ++ reads 2 ++ scans 60 (showing 0 0x24) ++ reads 2 ++ Swap plain_map ∷ reads 5)
    (0x2e ∷ 0xe0 ∷ 0x38 ∷ 0xe0 ∷ 0x38 ∷ 0xf0 ∷ 0x2e ∷ 0xe0 ∷ 0xf0 ∷ 0x38 ∷ [])

-- In set 3 it ends the repeat of the 5, and has none itself, though F7 was to make all keys repeat.
abbrev pub media_ends_repeat : Transcript
media_ends_repeat =
    transcript (reads 1 ++ host 0xf0 ++ host 3 ++ host 0xf7 ++ host 0xf3 ++ host 0 ++ Swap media_panel ∷ [])
    (scans 3 (showing 0 0x20) ++ reads 1 ++ scans 71 (showing 0 0x24) ++ reads 1)
    (0x2e ∷ [])

-- A repeat is not wrapped.
abbrev pub repeat_unwrapped : Transcript
repeat_unwrapped =
    transcript quickest
    (scans 3 (showing_too 8 1 (showing 5 2)) ++ reads 6 ++ scans 60 (showing_too 8 1 (showing 5 2)) ++ reads 2 ++ Swap plain_map ∷ reads 5)
    (0x12 ∷ 0xe0 ∷ 0xf0 ∷ 0x12 ∷ 0xe0 ∷ 0x75 ∷ 0xe0 ∷ 0x75 ∷ 0xf0 ∷ 0x12 ∷ 0xe0 ∷ 0xf0 ∷ 0x75 ∷ [])

-- When a repeat falls due, what it sends, and what ends it.
unfoldable pub due : List Transcript
due =
    not_before ∷ repeat_lost ∷ repeat_after_lost ∷ repeat_time ∷ repeat_in_phantom ∷ none_takes_over ∷ pause_ends_repeat ∷ media_takes_over ∷ media_ends_repeat ∷ repeat_unwrapped ∷ []

-- F4 ends a repeat.
abbrev pub enable_ends_repeat : Transcript
enable_ends_repeat =
    transcript quickest
    (scans 3 (showing 0 4) ++ reads 1 ++ host 0xf4 ++ scans 68 (showing 0 4) ++ reads 1)
    (0x1e ∷ [])

-- A swap leaves indicators and rate: UP has its Num Lock form, and repeats after 60 scans.
abbrev pub swap_keeps_modes : Transcript
swap_keeps_modes =
    transcript (quickest ++ host 0xed ++ host 2)
    (Swap plain_map ∷ scans 3 (showing 8 1) ++ reads 4 ++ scans 60 (showing 8 1) ++ reads 2)
    (0xe0 ∷ 0x12 ∷ 0xe0 ∷ 0x75 ∷ 0xe0 ∷ 0x75 ∷ [])

-- F0, F6 and the reset bring back the default rate: no repeat after 60 scans.
unfoldable pub slow_again : List Call
slow_again = scans 3 (showing 0 4) ++ reads 1 ++ scans 68 (showing 0 4) ++ reads 2

abbrev pub set_restores_rate : Transcript
set_restores_rate =
    transcript (quickest ++ host 0xf0 ++ host 2)
    slow_again
    (0x1e ∷ [])

abbrev pub default_restores_rate : Transcript
default_restores_rate =
    transcript (quickest ++ host 0xf6)
    slow_again
    (0x1e ∷ [])

abbrev pub reset_restores_rate : Transcript
reset_restores_rate =
    transcript (quickest ++ host 0xff ++ reads 1)
    slow_again
    (0x1e ∷ [])

-- F3 leaves the interval that runs: the repeat comes 60 scans after the press, and the next one 16 scans later.
abbrev pub rate_of_next_interval : Transcript
rate_of_next_interval =
    transcript quickest
    (scans 3 (showing 0 4) ++ reads 1 ++ scans 30 (showing 0 4) ++ host 0xf3 ++ host 8 ++ scans 30 (showing 0 4) ++ reads 1 ++ scans 15 (showing 0 4) ++ Swap plain_map ∷ reads 3)
    (0x1e ∷ 0x1e ∷ 0xf0 ∷ 0x1e ∷ [])

-- Set 3: a repeat by the type that the key has when it falls due; one that its type forbids then has ended.
abbrev pub repeat_in_set3 : Transcript
repeat_in_set3 =
    transcript (reads 1 ++ host 0xf0 ++ host 3 ++ host 0xf3 ++ host 0)
    (scans 3 (showing 3 0x20) ++ reads 1 ++ scans 60 (showing 3 0x20) ++ reads 1 ++ host 0xf9 ++ scans 8 (showing 3 0x20) ++ reads 1 ++ host 0xf7 ++ scans 68 (showing 3 0x20) ++ reads 1 ++ scans 3 nothing ++ reads 1 ++ host 0xf8 ++ scans 3 (showing 3 0x20) ++ reads 1 ++ scans 60 (showing 3 0x20) ++ reads 1 ++ scans 3 nothing ++ reads 2)
    (0x1c ∷ 0x1c ∷ 0x1c ∷ 0xf0 ∷ 0x1c ∷ [])

-- What a rate and a type make of it.
unfoldable pub paced : List Transcript
paced =
    enable_ends_repeat ∷ swap_keeps_modes ∷ set_restores_rate ∷ default_restores_rate ∷ reset_restores_rate ∷ rate_of_next_interval ∷ repeat_in_set3 ∷ []
