-- Reading key bytes, one at a time (docs/RULES.md, section 4). Assumes nothing.
use Rattle.std.specs.Prelude.{ℕ, ◌+◌, ◌%◌, Bool, true, false, [], ◌∷◌, eqb, ltb, leb, Option, Some, None, Result, Ok, Err}
use Rattle.basics.specs.Choice.{pick, either, between}
use Rattle.basics.specs.Said.{Said, accepted, refused}
use Rattle.keys.specs.Keys.{code_in, alt_print, left_wrap, right_wrap, mark_of}
use Rattle.keys.specs.Named.{print_key, pause_key}
use Rattle.lookup.specs.Lookup.{key_with}
use Rattle.reader.specs.declared.Event.{Event}
use Rattle.reader.specs.declared.Event.TheVariants.{More, Pressed, Released, PauseStruck, Wrapping, Overrun, Unknown}
use Rattle.reader.specs.declared.ReadError.{ReadError}
use Rattle.reader.specs.declared.ReadError.TheVariants.{BadState, BadSet}
use Rattle.reader.specs.declared.Answer.{Answer}
use Rattle.reader.specs.declared.Press.{Press}

-- More is needed: the sequence goes on in this state.
abbrev pub go_on : ℕ → Answer
go_on state = record { state = state; event = More }

-- A sequence ends with an event; the next byte starts afresh.
abbrev pub ends : Event → Answer
ends event = record { state = 0; event = event }

-- A key that is found goes down or comes up; where none is, the code is unknown.
abbrev pub moves : Bool → Option ℕ → Event
moves down None = Unknown
moves down (Some key) = pick down (Pressed key) (Released key)

-- The same of a key's number, 0 for none.
abbrev pub key_moves : Bool → ℕ → Event
key_moves down key = pick (eqb key 0) Unknown (pick down (Pressed key) (Released key))

-- PAUSE while a CTRL is held: struck going down, and coming up just the end of it.
abbrev pub ctrl_pause : Bool → Event
ctrl_pause down = pick down PauseStruck Wrapping

-- A code of set 1 or 2 that wraps another one.
abbrev pub is_wrap : ℕ → ℕ → Bool
is_wrap set code = either (eqb code (left_wrap set)) (eqb code (right_wrap set))

-- What a code of set 1 or 2 says, going down or coming up: wrapping, the Ctrl form of PAUSE, the Alt form of PRINT, or a key of the table.
unfoldable pub heard : ℕ → Bool → ℕ → Event
heard set down code =
    pick (is_wrap set code) Wrapping
    (pick (eqb code (code_in set pause_key)) (ctrl_pause down)
    (key_moves down (pick (eqb code (alt_print set)) print_key (key_with set code))))

-- The one byte that is wanted, and what it leads to; any other is unknown.
abbrev pub expect : ℕ → ℕ → Answer → Answer
expect wanted byte next = pick (eqb byte wanted) next (ends Unknown)

-- Set 1. The top bit tells a release from a press.
unfoldable pub in_set1 : ℕ → ℕ → Answer
in_set1 state byte =
    pick (eqb state 0)
    (pick (eqb byte 0xe0) (go_on 1)
    (pick (eqb byte 0xe1) (go_on 4)
    (ends (heard 1 (ltb byte 128) (byte % 128)))))
    (pick (eqb state 1) (ends (heard 1 (ltb byte 128) (0xe000 + byte % 128)))
    (pick (eqb state 4) (expect 0x1d byte (go_on 5))
    (pick (eqb state 5) (expect 0x45 byte (go_on 6))
    (pick (eqb state 6) (expect 0xe1 byte (go_on 7))
    (pick (eqb state 7) (expect 0x9d byte (go_on 8))
    (pick (eqb state 8) (expect 0xc5 byte (ends PauseStruck))
    (ends Unknown)))))))

-- Set 2. F0 goes before the code of a release.
unfoldable pub in_set2 : ℕ → ℕ → Answer
in_set2 state byte =
    pick (eqb state 0)
    (pick (eqb byte 0xe0) (go_on 1)
    (pick (eqb byte 0xf0) (go_on 2)
    (pick (eqb byte 0xe1) (go_on 4)
    (ends (heard 2 true byte)))))
    (pick (eqb state 1) (pick (eqb byte 0xf0) (go_on 3) (ends (heard 2 true (0xe000 + byte))))
    (pick (eqb state 2) (ends (heard 2 false byte))
    (pick (eqb state 3) (ends (heard 2 false (0xe000 + byte)))
    (pick (eqb state 4) (expect 0x14 byte (go_on 9))
    (pick (eqb state 9) (expect 0x77 byte (go_on 10))
    (pick (eqb state 10) (expect 0xe1 byte (go_on 11))
    (pick (eqb state 11) (expect 0xf0 byte (go_on 12))
    (pick (eqb state 12) (expect 0x14 byte (go_on 13))
    (pick (eqb state 13) (expect 0xf0 byte (go_on 14))
    (pick (eqb state 14) (expect 0x77 byte (ends PauseStruck))
    (ends Unknown)))))))))))

-- Set 3. F0 goes before the code of a release; there is no E0, no wrapping, and PAUSE is a key like any other.
unfoldable pub in_set3 : ℕ → ℕ → Answer
in_set3 state byte =
    pick (eqb state 0) (pick (eqb byte 0xf0) (go_on 2) (ends (key_moves true (key_with 3 byte))))
    (pick (eqb state 2) (ends (key_moves false (key_with 3 byte)))
    (ends Unknown))

-- A byte in a state of a set, which is 3 if it is not 1 or 2.
abbrev pub in_set : ℕ → ℕ → ℕ → Answer
in_set set state byte =
    pick (eqb set 1) (in_set1 state byte)
    (pick (eqb set 2) (in_set2 state byte)
    (in_set3 state byte))

-- The same where the byte may be the overrun mark, which counts wherever it stands.
unfoldable pub read_byte : ℕ → ℕ → ℕ → Answer
read_byte set state byte = pick (eqb byte (mark_of set)) (ends Overrun) (in_set set state byte)

-- The reader's answer: a state out of its range is refused first, then a set; neither moves the state.
unfoldable pub answer_of : ℕ → ℕ → ℕ → Result Answer ReadError
answer_of set state byte =
    pick (leb state 14)
    (pick (between 1 3 set) (Ok (read_byte set state byte)) (Err (BadSet state)))
    (Err (BadState state))

-- What each event says (docs/RULES.md, section 9): the place of an event in the list of section 4, counted from 0, and its key.
abbrev pub event_says : Event → Said
event_says More = accepted (0 ∷ [])
event_says (Pressed key) = accepted (1 ∷ key ∷ [])
event_says (Released key) = accepted (2 ∷ key ∷ [])
event_says PauseStruck = accepted (3 ∷ [])
event_says Wrapping = accepted (4 ∷ [])
event_says Overrun = accepted (5 ∷ [])
event_says Unknown = accepted (6 ∷ [])

-- What each refusal says.
abbrev pub error_says : ReadError → Said
error_says (BadState state) = refused 9
error_says (BadSet state) = refused 7

-- The state that a refusal hands back.
abbrev pub state_in : ReadError → ℕ
state_in (BadState state) = state
state_in (BadSet state) = state

-- What an answer says is what its event says, or the refusal,
abbrev pub answer_says : Result Answer ReadError → Said
answer_says (Ok answer) = event_says answer.event
answer_says (Err error) = error_says error

-- and this is what is said of a byte in a state of a set, by the table.
unfoldable pub answer_said : ℕ → ℕ → ℕ → Said
answer_said set state byte =
    pick (leb state 14) (pick (between 1 3 set) (event_says (read_byte set state byte).event) (refused 7)) (refused 9)

-- The key that a press carries; no other event has one.
abbrev pub pressed_key : Event → Option ℕ
pressed_key More = None
pressed_key (Pressed key) = Some key
pressed_key (Released key) = None
pressed_key PauseStruck = None
pressed_key Wrapping = None
pressed_key Overrun = None
pressed_key Unknown = None

-- A press taken out of an answer, with the next state; a refusal is passed on.
abbrev pub press_of : Result Answer ReadError → Result Press ReadError
press_of (Ok answer) = Ok (record { state = answer.state; key = pressed_key answer.event })
press_of (Err error) = Err error
