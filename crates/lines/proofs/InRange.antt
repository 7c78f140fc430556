-- Whatever a line does, a record in its range stays in its range. Assumes nothing.
use mathlib.Core.Path.{◌≡◌, ap, ◌∙◌}
use mathlib.Core.Bool.{true}
use mathlib.Core.List.{List}
use Prim.Native.Nat.{ℕ}
use Rattle.basics.proofs.Cases.{picked}
use Rattle.dock.specs.Scan.{scan_of}
use Rattle.dock.specs.Swap.{swap_of}
use Rattle.dock.specs.Frame.{frame_of}
use Rattle.dock.specs.Read.{read_of}
use Rattle.dock.proofs.InRange.{scan_in_range, read_in_range, swap_in_range, frame_in_range}
use Rattle.record.specs.declared.Dock.{Dock}
use Rattle.range.specs.Range.{in_range}
use Rattle.text.specs.declared.Kind.{Kind}
use Rattle.text.specs.declared.Kind.TheVariants.{Read, Frame, Scan, Map, Malformed}
use Rattle.text.specs.Lines.{kind_of}
use Rattle.printing.specs.Printing.{Printed}
use Rattle.lines.specs.Steps.{Stepped, stepped, step_by, step_of}

-- What every call keeps, a line keeps.
line_keeps : (P : Dock → Type 0) (d : Dock) (line : List ℕ) → P d → P (read_of d).dock → ((number : ℕ) → P (frame_of d number).dock)
    → ((scan : List ℕ) → P (scan_of d scan).dock) → ((map : List ℕ) → P (swap_of d map).dock) → P (step_of d line).dock
unfolding step_of
line_keeps P d line p read frame scan swap = picked (λ (r : Stepped). P r.dock) (in_range d) _ _ (go (kind_of line)) p
  where
    go : (kind : Kind) → P (step_by kind d line).dock
    go Read = read
    go Frame = frame _
    go Scan = scan _
    go Map = swap _
    go Malformed = p

pub step_in_range : (d : Dock) (line : List ℕ) → in_range d ≡ true → in_range (step_of d line).dock ≡ true
step_in_range d line h =
    line_keeps (λ (e : Dock). in_range e ≡ true) d line h (read_in_range d h) (λ number. frame_in_range d number h) (λ scan. scan_in_range d scan h) (λ map. swap_in_range d map h)

-- So it does in place.
pub stepped_in_range : (d next : Dock) (line : List ℕ) (printed : Printed) → stepped next printed ≡ step_of d line → in_range d ≡ true
    → in_range next ≡ true
stepped_in_range d next line printed e h = ap (λ (r : Stepped). in_range r.dock) e ∙ step_in_range d line h
