-- The bytes of a press, a release and a repeat (docs/RULES.md, section 3). Assumes nothing.
use Rattle.std.specs.Prelude.{ℕ, ◌+◌, ◌/◌, ◌%◌, Bool, true, false, not, List, [], ◌∷◌, ◌++◌, eqb, ltb}
use Rattle.keys.specs.Keys.{code_in, alt_print, left_wrap, right_wrap, typematic, make_break, typematic_make_break}
use Rattle.keys.specs.Named.{ctrl_l, first_cursor, last_cursor, num_key, keypad_slash, print_key, pause_key, first_media}
use Rattle.codes.specs.declared.Action.{Action}
use Rattle.codes.specs.declared.Action.TheVariants.{Press, Release, Repeat}
use Rattle.codes.specs.declared.Form.{Form}
use Rattle.codes.specs.declared.Form.TheVariants.{Plain, ShiftLeft, ShiftRight, ShiftBoth, NumLock, Other}
use Rattle.basics.specs.Choice.{pick, both, either, between}
use Rattle.codes.specs.Modifiers.{shifts, shift_held, control_held, alt_held}

-- The keys that do not follow the table alone.
abbrev pub is_cursor : ℕ → Bool
is_cursor key = between first_cursor last_cursor key

abbrev pub is_keypad_slash : ℕ → Bool
is_keypad_slash key = eqb key keypad_slash

abbrev pub is_print : ℕ → Bool
is_print key = eqb key print_key

abbrev pub is_pause : ℕ → Bool
is_pause key = eqb key pause_key

-- The media keys have no code in set 3; every other key has one in each set.
abbrev pub has_code : ℕ → ℕ → Bool
has_code set key = either (not (eqb set 3)) (ltb key first_media)

-- What goes before a code's last byte: E0 or nothing. A code is the byte that is sent, with 0xe000 added where E0 goes before it.
unfoldable pub prefix : ℕ → List ℕ
prefix code = pick (eqb (code / 256) 0) [] ((code / 256) ∷ [])

-- What a code sends when its key goes down: itself.
unfoldable pub make_of : ℕ → List ℕ
make_of code = prefix code ++ (code % 256) ∷ []

-- What a code sends when its key comes up: in set 1 itself with the top bit set, in sets 2 and 3 itself behind F0.
unfoldable pub break_of : ℕ → ℕ → List ℕ
break_of set code = prefix code ++ pick (eqb set 1) ((code % 128 + 128) ∷ []) (0xf0 ∷ (code % 256) ∷ [])

-- What a form sends before a make: held SHIFTs seem to come up, and under Num Lock one seems to go down.
unfoldable pub before : ℕ → Form → List ℕ
before set Plain = []
before set ShiftLeft = break_of set (left_wrap set)
before set ShiftRight = break_of set (right_wrap set)
before set ShiftBoth = break_of set (left_wrap set) ++ break_of set (right_wrap set)
before set NumLock = make_of (left_wrap set)
before set Other = []

-- What a form sends after a break: the same undone, last first.
unfoldable pub after : ℕ → Form → List ℕ
after set Plain = []
after set ShiftLeft = make_of (left_wrap set)
after set ShiftRight = make_of (right_wrap set)
after set ShiftBoth = make_of (right_wrap set) ++ make_of (left_wrap set)
after set NumLock = break_of set (left_wrap set)
after set Other = []

-- The form that held SHIFTs give.
unfoldable pub shift_form : ℕ → Form
shift_form modifiers =
    pick (eqb (shifts modifiers) 0) Plain
    (pick (eqb (shifts modifiers) 1) ShiftLeft
    (pick (eqb (shifts modifiers) 2) ShiftRight ShiftBoth))

-- The ten cursor keys: SHIFT without Num Lock, and Num Lock without SHIFT, have forms of their own.
unfoldable pub cursor_form : ℕ → Bool → Form
cursor_form modifiers lock = pick lock (pick (shift_held modifiers) Plain NumLock) (shift_form modifiers)

-- PRINT: its Alt form if an ALT is held, else its code bare if a CTRL or SHIFT is, else wrapped as under Num Lock.
unfoldable pub print_form : ℕ → Form
print_form modifiers = pick (alt_held modifiers) Other (pick (either (control_held modifiers) (shift_held modifiers)) Plain NumLock)

-- PAUSE: its Ctrl form if a CTRL is held.
unfoldable pub pause_form : ℕ → Form
pause_form modifiers = pick (control_held modifiers) Other Plain

-- The form that a key takes by the modifiers held and Num Lock at that moment; set 3 ignores both.
unfoldable pub form_of : ℕ → ℕ → ℕ → Bool → Form
form_of set key modifiers lock =
    pick (eqb set 3) Plain
    (pick (is_cursor key) (cursor_form modifiers lock)
    (pick (is_keypad_slash key) (shift_form modifiers)
    (pick (is_print key) (print_form modifiers)
    (pick (is_pause key) (pause_form modifiers) Plain))))

-- Keys whose bytes depend on modifiers or Num Lock: in sets 1 and 2 the cursor keys, keypad /, PRINT and PAUSE.
unfoldable pub has_forms : ℕ → ℕ → Bool
has_forms set key =
    both (not (eqb set 3)) (either (is_cursor key) (either (is_keypad_slash key) (either (is_print key) (is_pause key))))

-- The form that PRINT has with ALT, and PAUSE with CTRL.
abbrev pub is_other : Form → Bool
is_other Plain = false
is_other ShiftLeft = false
is_other ShiftRight = false
is_other ShiftBoth = false
is_other NumLock = false
is_other Other = true

-- The code of a key in a form: PRINT has another one in its other form.
unfoldable pub code_of : ℕ → ℕ → Form → ℕ
code_of set key form = pick (both (is_print key) (is_other form)) (alt_print set) (code_in set key)

-- In sets 1 and 2 PAUSE sends all that it has on its press, and nothing on its release.
abbrev pub pauses_at_once : ℕ → ℕ → Bool
pauses_at_once set key = both (is_pause key) (either (eqb set 1) (eqb set 2))

-- All of PAUSE: with CTRL the make and break of its code; else E1 before the makes of CTRL_L and NUM, and E1 before their breaks.
unfoldable pub pause_bytes : ℕ → Form → List ℕ
pause_bytes set form =
    pick (is_other form)
    (make_of (code_in set pause_key) ++ break_of set (code_in set pause_key))
    (0xe1 ∷ make_of (code_in set ctrl_l) ++ make_of (code_in set num_key)
    ++ 0xe1 ∷ break_of set (code_in set ctrl_l) ++ break_of set (code_in set num_key))

-- A release is sent in sets 1 and 2, and in set 3 by the two types with Break in their name.
unfoldable pub sends_release : ℕ → ℕ → Bool
sends_release set type = either (not (eqb set 3)) (either (eqb type make_break) (eqb type typematic_make_break))

-- PAUSE never repeats, nor does a key without a code; any other does, in set 3 only by the two Typematic types.
unfoldable pub may_repeat : ℕ → ℕ → ℕ → Bool
may_repeat set key type =
    both (not (is_pause key)) (both (has_code set key) (either (not (eqb set 3)) (either (eqb type typematic) (eqb type typematic_make_break))))

-- The bytes of an action in a form. A repeat leaves all wrapping out.
unfoldable pub bytes_of : ℕ → ℕ → Action → ℕ → Form → List ℕ
bytes_of set key Press type form =
    pick (pauses_at_once set key) (pause_bytes set form) (before set form ++ make_of (code_of set key form))
bytes_of set key Release type form =
    pick (pauses_at_once set key) [] (pick (sends_release set type) (break_of set (code_of set key form) ++ after set form) [])
bytes_of set key Repeat type form = pick (may_repeat set key type) (make_of (code_of set key form)) []

-- The bytes that an action of a key sends: none where it has no code.
unfoldable pub encode : ℕ → ℕ → Action → ℕ → ℕ → Bool → List ℕ
encode set key action type modifiers lock = pick (has_code set key) (bytes_of set key action type (form_of set key modifiers lock)) []
