-- What each call says is what the table of numbers has of it (docs/RULES.md, section 9). Assumes nothing.
use mathlib.Core.Path.{◌≡◌}
use native.Mathlib.Omega.{arith}
use Rattle.std.specs.Prelude.{Result, ⊤}
use mathlib.Core.List.{List}
use Prim.Native.Nat.{ℕ}
use lib.Dec.{eqb}
use Rattle.basics.specs.Said.{Said}
use Rattle.frames.specs.Frames.{unpacked_of}
use Rattle.record.specs.declared.Dock.{Dock}
use Rattle.dock.specs.declared.Refusal.{Refusal}
use Rattle.dock.specs.Answers.{Answered, answer_says, is_accepted, answered_says, taken_says}
use Rattle.dock.specs.Scan.{scan_of, scan_said}
use Rattle.dock.specs.Swap.{swap_of, swap_said}
use Rattle.dock.specs.Frame.{took_frame, frame_of, frame_said}
use Rattle.dock.specs.Read.{reply_taken, key_byte_taken, read, read_of, read_said}

-- An answer accepts exactly where its number is 0.
pub accepted_is_0 : (answer : Result ⊤ Refusal) → is_accepted answer ≡ eqb (answer_says answer).number 0
accepted_is_0 answer = grind arith

module _ (d : Dock) where
  -- The call says this.
  Says : Answered → Said → Type 0
  Says a said = answered_says a ≡ said

  pub scan_says : (scan : List ℕ) → answered_says (scan_of d scan) ≡ scan_said d scan
  unfolding Says scan_of scan_said
  scan_says scan = grind arith

  pub swap_says : (map : List ℕ) → answered_says (swap_of d map) ≡ swap_said d map
  unfolding Says swap_of swap_said
  swap_says map = grind arith

  pub frame_says : (number : ℕ) → answered_says (frame_of d number) ≡ frame_said d number
  unfolding Says took_frame frame_of frame_said unpacked_of
  frame_says number = grind arith

  pub read_says : taken_says (read_of d) ≡ read_said d
  unfolding read_of read reply_taken key_byte_taken read_said
  read_says = grind arith
