-- Docks that are wrong at a frame from the host (docs/RULES.md, sections 2 and 11). Assumes nothing.
use Rattle.std.specs.Prelude.{ℕ, ◌/◌, ◌%◌, true, false, [], eqb, leb}
use Rattle.basics.specs.Choice.{pick, both}
use Rattle.commands.specs.Commands.{with_set}
use Rattle.contacts.specs.Counts.{unseen}
use Rattle.dock.specs.Frame.{frame_of}
use Rattle.frames.specs.Frames.{packed_of}
use Rattle.queue.specs.Queues.{queue_of}
use Rattle.record.specs.Views.{with_queue, keys_of, contacts_of}
use Rattle.record.specs.Parts.{with_waiting, with_contacts, with_scanning, with_keys, with_map, with_handover}
use Rattle.record.specs.Power.{plain_map}
use Rattle.record.specs.declared.Dock.{Dock}
use Rattle.runs.specs.Machines.{Machine}
use Rattle.wrong_docks.specs.Docks.{framing_by}

-- One byte of the host is obeyed otherwise: f is told the dock before and after.
abbrev pub at_byte : ℕ → (Dock → Dock → Dock) → Machine
at_byte byte f = framing_by (λ (d : Dock) (number : ℕ). let e = (frame_of d number).dock in pick (eqb number (packed_of byte)) (f d e) e)

-- The same of one value, where the command waits for it.
abbrev pub at_value : ℕ → ℕ → (Dock → Dock → Dock) → Machine
at_value command value f =
    framing_by (λ (d : Dock) (number : ℕ).
    let e = (frame_of d number).dock in pick (both (eqb number (packed_of value)) (eqb d.rest.waiting command)) (f d e) e)

-- Deaf after F2: it waits for a value, as ED does.
abbrev pub deaf_after_identify : Machine
deaf_after_identify = at_byte 0xf2 (λ d e. with_waiting e 0xed)

-- A dock with the set of another.
abbrev pub with_set_of : Dock → Dock → Dock
with_set_of d e = with_set d.rest.mode.set e

-- F6 keeps the set,
abbrev pub default_keeps_the_set : Machine
default_keeps_the_set = at_byte 0xf6 with_set_of

-- or drops the contact history;
abbrev pub default_forgets_history : Machine
default_forgets_history = at_byte 0xf6 (λ d e. with_contacts e unseen)

-- so does F4.
abbrev pub enable_forgets_history : Machine
enable_forgets_history = at_byte 0xf4 (λ d e. with_contacts e unseen)

-- F5 leaves scanning on.
abbrev pub disable_keeps_scanning : Machine
disable_keeps_scanning = at_byte 0xf5 (λ d e. with_scanning e d.rest.scanning)

-- ED clears the queue.
abbrev pub indicators_clear : Machine
indicators_clear = at_byte 0xed (λ d e. with_keys e (with_queue (keys_of e) (queue_of [])))

-- The value of F0 chooses no set.
abbrev pub set_not_chosen : Machine
set_not_chosen = framing_by (λ (d : Dock) (number : ℕ). let e = (frame_of d number).dock in pick (eqb d.rest.waiting 0xf0) (with_set_of d e) e)

-- The question which set is in use chooses one,
abbrev pub question_chooses : Machine
question_chooses = at_value 0xf0 0 (λ d e. with_set 1 e)

-- or leaves F0 waiting.
abbrev pub question_leaves_wait : Machine
question_leaves_wait = at_value 0xf0 0 (λ d e. with_waiting e 0xf0)

-- A wrong value ends the wait for the right one,
abbrev pub wrong_value_ends_wait : Machine
wrong_value_ends_wait = at_value 0xf3 0x80 (λ d e. with_waiting e 0)

-- FE does,
abbrev pub resend_ends_wait : Machine
resend_ends_wait = at_byte 0xfe (λ d e. with_waiting e 0)

-- a broken frame does,
abbrev pub broken_ends_wait : Machine
broken_ends_wait = framing_by (λ (d : Dock) (number : ℕ). let e = (frame_of d number).dock in pick (eqb number 0) (with_waiting e 0) e)

-- or EF does not.
abbrev pub ef_leaves_wait : Machine
ef_leaves_wait = at_byte 0xef (λ d e. with_waiting e d.rest.waiting)

-- The reset brings back the plain map,
abbrev pub reset_loses_map : Machine
reset_loses_map = at_byte 0xff (λ d e. with_map e plain_map)

-- leaves scanning off,
abbrev pub reset_keeps_scanning_off : Machine
reset_keeps_scanning_off = at_byte 0xff (λ d e. with_scanning e d.rest.scanning)

-- or keeps the contact history.
abbrev pub reset_keeps_history : Machine
reset_keeps_history = at_byte 0xff (λ d e. with_contacts e (contacts_of d))

-- A handover does not go on at a frame.
abbrev pub frames_leave_handover : Machine
frames_leave_handover =
    framing_by (λ (d : Dock) (number : ℕ).
    pick d.rest.handover (with_handover (frame_of (with_handover d false) number).dock true) (frame_of d number).dock)

-- Parity is not looked at.
abbrev pub any_parity : Machine
any_parity = framing_by (λ (d : Dock) (number : ℕ). (frame_of d (pick (leb number 2047) (packed_of (number / 2 % 256)) number)).dock)
