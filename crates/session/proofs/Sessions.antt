-- A session of lines is a list of calls: it leaves the dock that they leave, and what a line prints is what its call is answered with.
-- Assumes nothing.
use mathlib.Core.Path.{◌≡◌, refl, sym, ap, ◌∙◌}
use mathlib.Core.List.{List, [], ◌∷◌}
use Prim.Native.Nat.{ℕ}
use Rattle.dock.specs.Scan.{scan_of}
use Rattle.lines.specs.Steps.{step_by, step_of}
use Rattle.record.specs.declared.Dock.{Dock}
use Rattle.runs.specs.Machines.{ours}
use Rattle.runs.specs.Worlds.{World, next, after_calls}
use Rattle.text.specs.declared.Kind.{Kind}
use Rattle.text.specs.declared.Kind.TheVariants.{Read, Frame, Scan, Map, Malformed}
use Rattle.text.specs.Lines.{kind_of}
use Rattle.text.proofs.Lengths.{scan_is}
use Rattle.agreement.proofs.AnyCalls.{Sound, any_sound}
use Rattle.agreement.proofs.AfterReads.{after_both}
use Rattle.session.specs.Sessions.{kind_calls, calls_of, after_lines}
use Rattle.session.proofs.Bytes.{bytes_are_bytes}

-- One line.
line_is_calls : (w : World) → Sound w → (line : List ℕ) → (step_of w.dock line).dock ≡ (after_calls ours w (kind_calls (kind_of line) line)).dock
unfolding step_of after_calls next
line_is_calls w s line = rw s.range (go (kind_of line) refl)
  where
    go : (kind : Kind) → kind_of line ≡ kind → (step_by kind w.dock line).dock ≡ (after_calls ours w (kind_calls kind line)).dock
    go Read e = refl
    go Frame e = refl
    go Scan e = ap (λ (scan : List ℕ). (scan_of w.dock scan).dock) (sym (bytes_are_bytes line (scan_is line e).digits 18 0))
    go Map e = refl
    go Malformed e = refl

-- Any lines.
pub lines_are_calls : (lines : List (List ℕ)) (w : World) → Sound w → after_lines w.dock lines ≡ (after_calls ours w (calls_of lines)).dock
unfolding after_lines calls_of after_calls
lines_are_calls [] w s = refl
lines_are_calls (line ∷ lines) w s =
    let one = kind_calls (kind_of line) line in
    let then = after_calls ours w one in
    ap (λ (d : Dock). after_lines d lines) (line_is_calls w s line)
    ∙ lines_are_calls lines then (any_sound one w s)
    ∙ ap (λ (v : World). v.dock) (sym (after_both one (calls_of lines) w))
