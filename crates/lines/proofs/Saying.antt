-- What a line says is what the table of numbers has of it (docs/RULES.md, section 9). Assumes nothing.
use mathlib.Core.Path.{◌≡◌, refl, ap, ◌∙◌}
use mathlib.Core.List.{List}
use Prim.Native.Nat.{ℕ}
use Rattle.basics.specs.Said.{Said}
use Rattle.basics.proofs.Cases.{two_by_cases}
use Rattle.dock.specs.Frame.{frame_of}
use Rattle.dock.specs.Read.{read_of}
use Rattle.dock.specs.Scan.{scan_of}
use Rattle.dock.specs.Swap.{swap_of}
use Rattle.dock.proofs.Saying.{scan_says, swap_says, frame_says, read_says}
use Rattle.record.specs.declared.Dock.{Dock}
use Rattle.range.specs.Range.{in_range}
use Rattle.text.specs.declared.Kind.{Kind}
use Rattle.text.specs.declared.Kind.TheVariants.{Read, Frame, Scan, Map, Malformed}
use Rattle.digits.specs.Digits.{bytes_from, frame_in}
use Rattle.printing.proofs.Saying.{answer_printed, read_printed}
use Rattle.text.specs.Lines.{kind_of}
use Rattle.lines.specs.Steps.{Stepped, step_by, step_of, stepped_says, line_said, step_said}
use Rattle.printing.specs.Printing.{as_frame}

module _ (d : Dock) (line : List ℕ) where
  line_says : (kind : Kind) → stepped_says (step_by kind d line) ≡ line_said kind d line
  line_says Read = read_printed (read_of d).given ∙ ap as_frame (read_says d)
  line_says Frame = answer_printed (frame_of d (frame_in line)).answer ∙ frame_says d (frame_in line)
  line_says Scan = answer_printed (scan_of d (bytes_from line 0 18)).answer ∙ scan_says d (bytes_from line 0 18)
  line_says Map = answer_printed (swap_of d (bytes_from line 0 144)).answer ∙ swap_says d (bytes_from line 0 144)
  line_says Malformed = refl

  pub step_says : stepped_says (step_of d line) ≡ step_said d line
  unfolding step_of step_said
  step_says =
      two_by_cases (λ (s : Stepped) (said : Said). stepped_says s ≡ said) (in_range d) _ _ _ _ (λ fine. line_says (kind_of line)) (λ bad. refl)
