-- A frame from the host as the code meets it. Assumes nothing.
use mathlib.Core.Path.{◌≡◌}
use mathlib.Core.Bool.{true}
use Prim.Native.Nat.{ℕ}
use Rattle.frames.specs.Frames.{unpacked_of}
use Rattle.record.specs.declared.Dock.{Dock}
use Rattle.range.specs.Range.{in_range}
use Rattle.dock.specs.Frame.{took_frame, frame_of}

-- In its range the record takes the frame.
pub frame_taken : (d : Dock) (number : ℕ) → in_range d ≡ true → took_frame (unpacked_of number) d ≡ frame_of d number
unfolding frame_of
frame_taken d number h = rw h
