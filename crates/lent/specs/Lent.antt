-- The calls from C, on a record that is lent as bytes (docs/RULES.md, section 14; include/keydock.h). Assumes nothing.
use Rattle.std.specs.Prelude.{ℕ, ◌+◌, ◌*◌, List, eqb, ℤ, pos, length, get_or, Option, Result, ⊤}
use Rattle.basics.specs.Choice.{pick}
use Rattle.basics.specs.Said.{Said, minus}
use Rattle.record.specs.declared.Dock.{Dock}
use Rattle.record.specs.Power.{power_on}
use Rattle.dock.specs.declared.Refusal.{Refusal}
use Rattle.dock.specs.declared.Given.{Given}
use Rattle.dock.specs.Answers.{Answered, Taken, answer_says, given_says}
use Rattle.dock.specs.Calls.{Call, Scan, Swap, Frame, Read}
use Rattle.dock.specs.Scan.{scan_of}
use Rattle.dock.specs.Swap.{swap_of}
use Rattle.dock.specs.Frame.{frame_of}
use Rattle.dock.specs.Read.{read_of}
use Rattle.layout.specs.Layout.{size, flag_of, record_in, is_record, bytes_of}

-- What is said as one number: minus that of a refusal, else the values, a kind of byte and the byte, 0 where there is none.
abbrev pub said_number : Said → ℤ
said_number said =
    pick (eqb said.number 0) (pos (256 * get_or said.values 0 0 + get_or said.values 1 0)) (minus said.number)

-- An answer, and what a read gave.
abbrev pub answer_number : Result ⊤ Refusal → ℤ
answer_number answer = said_number (answer_says answer)

abbrev pub given_number : Result (Option Given) Refusal → ℤ
given_number given = said_number (given_says given)

-- What a call does: the number that it gives, and the record after it.
pub record Done : Type 0 where
  pub number : ℤ
  pub dock : Dock

abbrev pub answered_done : Answered → Done
answered_done a = record { number = answer_number a.answer; dock = a.dock }

abbrev pub taken_done : Taken → Done
taken_done t = record { number = given_number t.given; dock = t.dock }

abbrev pub done : Call → Dock → Done
done (Scan scan) d = answered_done (scan_of d scan)
done (Swap map) d = answered_done (swap_of d map)
done (Frame number) d = answered_done (frame_of d number)
done Read d = taken_done (read_of d)

-- A call on lent bytes: the number that it gives, and the bytes after it. Bytes that are no record are refused, and stay as they are.
unfoldable pub number_for : Call → List ℕ → ℤ
number_for call l = pick (is_record l) (done call (record_in l)).number (minus 9)

unfoldable pub bytes_after : Call → List ℕ → List ℕ
bytes_after call l = pick (is_record l) (bytes_of (done call (record_in l)).dock) l

-- Power-on looks at the number of bytes alone.
unfoldable pub power_number : List ℕ → ℤ
power_number l = pick (eqb (length l) size) (pos 0) (minus 9)

unfoldable pub power_bytes : List ℕ → List ℕ
power_bytes l = pick (eqb (length l) size) (bytes_of power_on) l

-- What a board lights lamps by, and whether scanning is on.
unfoldable pub indicators_number : List ℕ → ℤ
indicators_number l = pick (is_record l) (pos (record_in l).rest.mode.indicators) (minus 9)

unfoldable pub scanning_number : List ℕ → ℤ
scanning_number l = pick (is_record l) (pos (flag_of (record_in l).rest.scanning)) (minus 9)
