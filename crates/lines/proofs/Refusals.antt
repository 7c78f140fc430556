-- A refused line leaves the record as it was. Assumes nothing.
use mathlib.Core.Path.{◌≡◌, refl, ap}
use mathlib.Core.Bool.{true}
use mathlib.Core.List.{List}
use Prim.Native.Nat.{ℕ}
use Rattle.std.specs.Prelude.{Err}
use Rattle.basics.proofs.Cases.{picked}
use Rattle.dock.specs.Frame.{frame_of}
use Rattle.dock.specs.Read.{read_of}
use Rattle.dock.specs.Scan.{scan_of}
use Rattle.dock.specs.Swap.{swap_of}
use Rattle.dock.proofs.Refusals.{scan_refused, swap_refused, frame_refused, read_refused}
use Rattle.record.specs.declared.Dock.{Dock}
use Rattle.range.specs.Range.{in_range}
use Rattle.text.specs.declared.Kind.{Kind}
use Rattle.text.specs.declared.Kind.TheVariants.{Read, Frame, Scan, Map, Malformed}
use Rattle.digits.specs.Digits.{bytes_from, frame_in}
use Rattle.printing.proofs.Saying.{refuses, not_accepted, read_not_accepted}
use Rattle.text.specs.Lines.{kind_of}
use Rattle.lines.specs.Steps.{Stepped, step_by, step_of}

module _ (d : Dock) where
  -- If it is a refusal, the record is the one that came.
  abbrev Left : Stepped → Type 0
  Left s = refuses s.printed ≡ true → s.dock ≡ d

  left : (kind : Kind) (line : List ℕ) → Left (step_by kind d line)
  left Read line e = read_refused d (read_not_accepted (read_of d).given e)
  left Frame line e = frame_refused d (frame_in line) (not_accepted (frame_of d (frame_in line)).answer e)
  left Scan line e = scan_refused d (bytes_from line 0 18) (not_accepted (scan_of d (bytes_from line 0 18)).answer e)
  left Map line e = swap_refused d (bytes_from line 0 144) (not_accepted (swap_of d (bytes_from line 0 144)).answer e)
  left Malformed line e = refl

  pub step_refused : (line : List ℕ) (number : ℕ) → (step_of d line).printed ≡ Err number → (step_of d line).dock ≡ d
  unfolding step_of
  step_refused line number e = picked Left (in_range d) _ _ (left (kind_of line) line) (λ refused. refl) (ap refuses e)
