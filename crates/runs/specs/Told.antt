-- The stories that are told of demand 3 (docs/RULES.md, section 13). On a plain panel the 2, key 3, is row 2 of column 0; SHIFT_L is
-- row 1 of column 5, UP row 0 of column 8, and PAUSE row 4 of column 12. Assumes nothing.
use Rattle.std.specs.Prelude.{ℕ, suc, List, [], ◌∷◌, ◌++◌, replicate, set}
use Rattle.frames.specs.Frames.{packed_of}
use Rattle.keys.specs.Keys.{last_key}
use Rattle.record.specs.Power.{plain_map}
use Rattle.dock.specs.Calls.{Scan, Swap, Frame}
use Rattle.runs.specs.Stories.{Story, story, agreeing, pause_apart, reads, host, scans, nothing, showing, showing_too}

-- The limestone: the 2 is held, its panel is swapped, and once all is read nothing is down.
abbrev pub limestone : Story
limestone = story (reads 1) (scans 3 (showing 0 4) ++ reads 1 ++ Swap plain_map ∷ reads 2) (agreeing (0x1e ∷ 0xf0 ∷ 0x1e ∷ []) [])

-- Without the swap it stays down, and a scan or two that show it open do not bring it up.
abbrev pub held_on : Story
held_on =
    story (reads 1)
    (scans 3 (showing 0 4) ++ reads 1 ++ scans 2 nothing ++ scans 1 (showing 0 4) ++ scans 2 nothing)
    (agreeing (0x1e ∷ []) (3 ∷ []))

-- A repeat is read as a press of the key that is down; after a swap nothing repeats any more. The quickest rate is chosen, F3 00: a repeat
-- after 60 scans, and the next would come 8 scans later.
abbrev pub repeat_ended : Story
repeat_ended =
    story (reads 1 ++ host 0xf3 ++ host 0)
    (scans 3 (showing 0 4) ++ reads 1 ++ scans 60 (showing 0 4) ++ reads 1 ++ Swap plain_map ∷ reads 2 ++ scans 9 nothing ++ reads 1)
    (agreeing (0x1e ∷ 0x1e ∷ 0xf0 ∷ 0x1e ∷ []) [])

-- SHIFT and UP are held when the panel is swapped: both come up, UP in its base form, since SHIFT came up before it.
abbrev pub shifted_cursor : Story
shifted_cursor =
    story (reads 1)
    (scans 3 (showing_too 8 1 (showing 5 2)) ++ reads 6 ++ Swap plain_map ∷ reads 5)
    (agreeing (0x12 ∷ 0xe0 ∷ 0xf0 ∷ 0x12 ∷ 0xe0 ∷ 0x75 ∷ 0xf0 ∷ 0x12 ∷ 0xe0 ∷ 0xf0 ∷ 0x75 ∷ []) [])

-- The same in set 1, chosen before the terminal begins.
abbrev pub shifted_cursor_in_set1 : Story
shifted_cursor_in_set1 =
    story (reads 1 ++ host 0xf0 ++ host 1)
    (scans 3 (showing_too 8 1 (showing 5 2)) ++ reads 5 ++ Swap plain_map ∷ reads 3)
    (agreeing (0x2a ∷ 0xe0 ∷ 0xaa ∷ 0xe0 ∷ 0x48 ∷ 0xaa ∷ 0xe0 ∷ 0xc8 ∷ []) [])

-- SHIFT and UP are pressed, and SHIFT comes up before UP does: UP, which went down wrapped, comes up in its base form, with no byte more.
abbrev pub shift_let_go : Story
shift_let_go =
    story (reads 1)
    (scans 3 (showing_too 8 1 (showing 5 2)) ++ reads 6 ++ scans 3 (showing 8 1) ++ reads 2 ++ scans 3 nothing ++ reads 5)
    (agreeing (0x12 ∷ 0xe0 ∷ 0xf0 ∷ 0x12 ∷ 0xe0 ∷ 0x75 ∷ 0xf0 ∷ 0x12 ∷ 0xe0 ∷ 0xf0 ∷ 0x75 ∷ []) [])

-- Twelve keys in five columns.
unfoldable pub twelve : List ℕ
twelve = showing_too 4 1 (showing_too 3 1 (showing_too 2 1 (showing_too 1 1 (showing 0 0xff))))

-- Their bytes when they are pressed,
unfoldable pub twelve_pressed : List ℕ
twelve_pressed = 0x0e ∷ 0x16 ∷ 0x1e ∷ 0x26 ∷ 0x25 ∷ 0x2e ∷ 0x36 ∷ 0x3d ∷ 0x3e ∷ 0x1d ∷ 0x4d ∷ 0x2b ∷ []

-- and when they are released.
unfoldable pub twelve_released : List ℕ
twelve_released =
    0xf0 ∷ 0x0e ∷ 0xf0 ∷ 0x16 ∷ 0xf0 ∷ 0x1e ∷ 0xf0 ∷ 0x26 ∷ 0xf0 ∷ 0x25 ∷ 0xf0 ∷ 0x2e ∷ 0xf0 ∷ 0x36
    ∷ 0xf0 ∷ 0x3d ∷ 0xf0 ∷ 0x3e ∷ 0xf0 ∷ 0x1d ∷ 0xf0 ∷ 0x4d ∷ 0xf0 ∷ 0x2b ∷ []

-- They are held at a swap: eight releases fill the queue, and the rest follow as it is read. Scans in between are not counted.
abbrev pub long_handover : Story
long_handover =
    story (reads 1) (scans 3 twelve ++ reads 12 ++ Swap plain_map ∷ scans 3 (showing 0 4) ++ reads 24) (agreeing (twelve_pressed ++ twelve_released) [])

-- A second swap in the middle of it only replaces the map.
abbrev pub second_swap : Story
second_swap =
    story (reads 1) (scans 3 twelve ++ reads 12 ++ Swap plain_map ∷ reads 3 ++ Swap plain_map ∷ reads 21) (agreeing (twelve_pressed ++ twelve_released) [])

-- Scans that come while a command waits for its value are not counted,
abbrev pub waiting_command : Story
waiting_command = story (reads 1) (host 0xed ++ scans 3 (showing 0 4) ++ host 2 ++ reads 1) (agreeing [] [])

-- nor are those that come while scanning is off,
abbrev pub scanning_off : Story
scanning_off = story (reads 1 ++ host 0xf5 ++ scans 3 (showing 0 4) ++ host 0xf4) (scans 2 (showing 0 4) ++ reads 1) (agreeing [] [])

-- nor phantom ones: they neither press the four keys nor release UP. Num Lock is on, so UP has its form.
abbrev pub phantom_scans : Story
phantom_scans =
    story (reads 1 ++ host 0xed ++ host 2)
    (scans 3 (showing 8 1) ++ reads 4 ++ scans 3 (showing_too 1 3 (showing 0 3)) ++ reads 1)
    (agreeing (0xe0 ∷ 0x12 ∷ 0xe0 ∷ 0x75 ∷ []) (65 ∷ []))

-- Those that come while a reply waits are counted.
abbrev pub waiting_reply : Story
waiting_reply = story (reads 1) (Frame (packed_of 0xee) ∷ scans 3 (showing 0 4) ++ reads 2) (agreeing (0x1e ∷ []) (3 ∷ []))

-- Another panel, on which the 2 and the 3 have changed places.
abbrev pub other_panel : Story
other_panel = story (reads 1) (Swap (set (set plain_map 2 4) 3 3) ∷ scans 3 (showing 0 4) ++ reads 1) (agreeing (0x26 ∷ []) (4 ∷ []))

-- A panel with the first and the last media key, WWW-BACK and WAKE-UP, in the places of the 2 and the 3.
unfoldable pub media_panel : List ℕ
media_panel = set (set plain_map 2 105) 3 125

-- Both go down,
abbrev pub media_keys : Story
media_keys = story (reads 1) (Swap media_panel ∷ scans 3 (showing 0 12) ++ reads 4) (agreeing (0xe0 ∷ 0x38 ∷ 0xe0 ∷ 0x5e ∷ []) (105 ∷ 125 ∷ []))

-- and are handed over like any other.
abbrev pub media_handed_over : Story
media_handed_over =
    story (reads 1)
    (Swap media_panel ∷ scans 3 (showing 0 12) ++ reads 4 ++ Swap plain_map ∷ reads 6)
    (agreeing (0xe0 ∷ 0x38 ∷ 0xe0 ∷ 0x5e ∷ 0xe0 ∷ 0xf0 ∷ 0x38 ∷ 0xe0 ∷ 0xf0 ∷ 0x5e ∷ []) [])

-- Scans counted before the terminal begins count: the third comes after it.
abbrev pub third_scan : Story
third_scan = story (reads 1 ++ scans 2 (showing 0 4)) (scans 1 (showing 0 4) ++ reads 1) (agreeing (0x1e ∷ []) (3 ∷ []))

-- The next panel is typed on before the old one's release is read: its scans count, since no key of the old one is left.
abbrev pub typed_on_at_once : Story
typed_on_at_once =
    story (reads 1)
    (scans 3 (showing 0 4) ++ reads 1 ++ Swap plain_map ∷ scans 3 (showing 0 0x20) ++ reads 3)
    (agreeing (0x1e ∷ 0xf0 ∷ 0x1e ∷ 0x2e ∷ []) (6 ∷ []))

-- F2 waits for no value, so that scans count behind it.
abbrev pub identified : Story
identified = story (reads 1) (Frame (packed_of 0xf2) ∷ reads 3 ++ scans 3 (showing 0 4) ++ reads 1) (agreeing (0x1e ∷ []) (3 ∷ []))

-- After F0 01 and F6 set 2 is chosen, and the terminal reads by it,
abbrev pub set_default : Story
set_default = story (reads 1 ++ host 0xf0 ++ host 1 ++ host 0xf6) (scans 3 (showing 0 4) ++ reads 1) (agreeing (0x1e ∷ []) (3 ∷ []))

-- as it is after the reset, which forgets a key that is held.
abbrev pub after_reset : Story
after_reset =
    story (reads 1 ++ host 0xf0 ++ host 1 ++ scans 3 (showing 0 4) ++ host 0xff ++ reads 1)
    (scans 2 (showing 0 4) ++ scans 3 (showing 0 0x20) ++ reads 1)
    (agreeing (0x2e ∷ []) (6 ∷ []))

-- The terminal may begin after an overrun, once the mark is read and no key is held.
abbrev pub after_overrun : Story
after_overrun =
    story (reads 1 ++ scans 3 twelve ++ scans 3 nothing ++ reads 16)
    (scans 3 (showing 0 4) ++ reads 1)
    (agreeing (0x1e ∷ []) (3 ∷ []))

-- FE, a wrong value, a broken frame and one over 2047 change nothing of it: F3 goes on waiting for its value, and scans do not count
-- until it has come.
abbrev pub wrong_values : Story
wrong_values =
    story (reads 1)
    (scans 3 (showing 0 4) ++ reads 1 ++ host 0xf3 ++ host 0x80 ++ scans 3 (showing 0 0x20) ++ host 0xfe ++ Frame 0 ∷ Frame 2048 ∷ scans 3 nothing
    ++ reads 1 ++ host 0 ++ scans 2 nothing ++ reads 1)
    (agreeing (0x1e ∷ []) (3 ∷ []))

-- PAUSE is struck, and not down.
abbrev pub pause_struck : Story
pause_struck = story (reads 1) (scans 3 (showing 12 0x10) ++ reads 8) (pause_apart (0xe1 ∷ 0x14 ∷ 0x77 ∷ 0xe1 ∷ 0xf0 ∷ 0x14 ∷ 0xf0 ∷ 0x77 ∷ []))

-- Refused calls of every kind change nothing.
abbrev pub refusals : Story
refusals =
    story (reads 1)
    (Scan [] ∷ Swap [] ∷ Swap (replicate 144 (suc last_key)) ∷ Swap (replicate 144 1) ∷ Frame 2048 ∷ scans 3 (showing 0 4) ++ reads 1)
    (agreeing (0x1e ∷ []) (3 ∷ []))

-- All of them, the long ones last.
unfoldable pub stories : List Story
stories =
    limestone ∷ held_on ∷ shift_let_go ∷ shifted_cursor ∷ shifted_cursor_in_set1 ∷ other_panel ∷ waiting_command ∷ scanning_off ∷ phantom_scans
    ∷ media_keys ∷ media_handed_over ∷ waiting_reply ∷ third_scan ∷ typed_on_at_once ∷ identified ∷ set_default ∷ after_reset ∷ after_overrun ∷ wrong_values ∷ pause_struck ∷ refusals ∷ repeat_ended ∷ long_handover ∷ second_swap ∷ []
