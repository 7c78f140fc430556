-- The lines of a session, one after the other, and the calls that they make (docs/RULES.md, section 12). Assumes nothing.
use Rattle.std.specs.Prelude.{ℕ, List, [], ◌∷◌, ◌++◌}
use Rattle.digits.specs.Digits.{bytes_from, frame_in}
use Rattle.printing.specs.Printing.{Printed}
use Rattle.lines.specs.Steps.{step_of}
use Rattle.record.specs.declared.Dock.{Dock}
use Rattle.dock.specs.Calls.{Call}
use Rattle.dock.specs.Calls as calls
use Rattle.text.specs.declared.Kind.{Kind}
use Rattle.text.specs.declared.Kind.TheVariants.{Read, Frame, Scan, Map, Malformed}
use Rattle.text.specs.Lines.{kind_of}

-- The call that a line of a kind makes; a malformed one makes none.
abbrev pub kind_calls : Kind → List ℕ → List Call
kind_calls Read line = calls.Read ∷ []
kind_calls Frame line = calls.Frame (frame_in line) ∷ []
kind_calls Scan line = calls.Scan (bytes_from line 0 18) ∷ []
kind_calls Map line = calls.Swap (bytes_from line 0 144) ∷ []
kind_calls Malformed line = []

-- All calls of some lines.
unfoldable pub calls_of : List (List ℕ) → List Call
calls_of [] = []
calls_of (line ∷ lines) = kind_calls (kind_of line) line ++ calls_of lines

-- The dock after some lines,
unfoldable pub after_lines : Dock → List (List ℕ) → Dock
after_lines d [] = d
after_lines d (line ∷ lines) = after_lines (step_of d line).dock lines

-- and what each of them prints.
unfoldable pub printed_for : Dock → List (List ℕ) → List Printed
printed_for d [] = []
printed_for d (line ∷ lines) = (step_of d line).printed ∷ printed_for (step_of d line).dock lines
