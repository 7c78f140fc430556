-- What a line of the bench does and prints (docs/RULES.md, section 12). Assumes nothing.
use Rattle.std.specs.Prelude.{ℕ, List, Err}
use Rattle.basics.specs.Choice.{pick}
use Rattle.basics.specs.Said.{Said, refused}
use Rattle.dock.specs.Answers.{Answered, Taken}
use Rattle.dock.specs.Frame.{frame_of, frame_said}
use Rattle.dock.specs.Read.{read_of, read_said}
use Rattle.dock.specs.Scan.{scan_of, scan_said}
use Rattle.dock.specs.Swap.{swap_of, swap_said}
use Rattle.record.specs.declared.Dock.{Dock}
use Rattle.range.specs.Range.{in_range}
use Rattle.text.specs.declared.Kind.{Kind}
use Rattle.text.specs.declared.Kind.TheVariants.{Read, Frame, Scan, Map, Malformed}
use Rattle.digits.specs.Digits.{bytes_from, frame_in}
use Rattle.text.specs.Lines.{kind_of}
use Rattle.printing.specs.Printing.{Printed, answer_prints, read_prints, printed_says, as_frame}

-- The record after a line, and what the line prints.
pub record Stepped : Type 0 where
  pub dock : Dock
  pub printed : Printed

abbrev pub stepped : Dock → Printed → Stepped
stepped dock printed = record { dock = dock; printed = printed }

-- After a scan, a swap or a frame.
abbrev pub stepped_by : Answered → Stepped
stepped_by r = stepped r.dock (answer_prints r.answer)

-- After a read.
abbrev pub stepped_read : Taken → Stepped
stepped_read r = stepped r.dock (read_prints r.given)

-- What a line of a kind does.
abbrev pub step_by : Kind → Dock → List ℕ → Stepped
step_by Read d line = stepped_read (read_of d)
step_by Frame d line = stepped_by (frame_of d (frame_in line))
step_by Scan d line = stepped_by (scan_of d (bytes_from line 0 18))
step_by Map d line = stepped_by (swap_of d (bytes_from line 0 144))
step_by Malformed d line = stepped d (Err 8)

-- What a line does, its newline apart. A record out of its range is refused before all else.
unfoldable pub step_of : Dock → List ℕ → Stepped
step_of d line = pick (in_range d) (step_by (kind_of line) d line) (stepped d (Err 9))

-- The same of a line beside the record.
abbrev pub stepped_says : Stepped → Said
stepped_says r = printed_says r.printed

-- What is said of a line of a kind, by the table,
abbrev pub line_said : Kind → Dock → List ℕ → Said
line_said Read d line = as_frame (read_said d)
line_said Frame d line = frame_said d (frame_in line)
line_said Scan d line = scan_said d (bytes_from line 0 18)
line_said Map d line = swap_said d (bytes_from line 0 144)
line_said Malformed d line = refused 8

-- and of any line.
unfoldable pub step_said : Dock → List ℕ → Said
step_said d line = pick (in_range d) (line_said (kind_of line) d line) (refused 9)
