-- A refused call changes nothing, whatever record it came with, in range or not. Assumes nothing.
use mathlib.Core.Path.{◌≡◌, refl}
use mathlib.Core.Bool.{true, false}
use mathlib.Core.List.{List}
use Prim.Native.Nat.{ℕ}
use native.Mathlib.Omega.{arith}
use Rattle.std.specs.Prelude.{Ok, is_ok}
use Rattle.basics.proofs.Cases.{never}
use Rattle.record.specs.declared.Dock.{Dock}
use Rattle.dock.specs.Answers.{Answered, Taken, is_accepted, answered}
use Rattle.dock.specs.Scan.{scan_of}
use Rattle.dock.specs.Swap.{swap_of}
use Rattle.dock.specs.Frame.{frame_of}
use Rattle.dock.specs.Read.{reply_taken, key_byte_taken, read_of}
use Rattle.dock.proofs.Calls.{by_scan, by_swap, by_frame, by_read}

module _ (d : Dock) where
  -- If it is a refusal, the record is the one that came.
  Left : Answered → Type 0
  Left a = is_accepted a.answer ≡ false → a.dock ≡ d

  -- An accepted call is none.
  accepted : (after : Dock) → Left (answered (Ok tt) after)
  unfolding Left
  accepted after refused = grind arith

  pub scan_refused : (scan : List ℕ) → is_accepted (scan_of d scan).answer ≡ false → (scan_of d scan).dock ≡ d
  unfolding Left
  scan_refused scan = by_scan Left d (λ refusal refused. refl) scan (accepted _)

  pub swap_refused : (map : List ℕ) → is_accepted (swap_of d map).answer ≡ false → (swap_of d map).dock ≡ d
  unfolding Left
  swap_refused map = by_swap Left d (λ refusal refused. refl) map (λ long good. accepted _)

  pub frame_refused : (number : ℕ) → is_accepted (frame_of d number).answer ≡ false → (frame_of d number).dock ≡ d
  unfolding Left
  frame_refused number = by_frame Left d (λ refusal refused. refl) number (λ byte. accepted _) (accepted _)

  -- A read that is not refused gives a byte or nothing.
  pub read_refused : is_ok (read_of d).given ≡ false → (read_of d).dock ≡ d
  unfolding key_byte_taken reply_taken
  read_refused =
      by_read (λ (t : Taken). is_ok t.given ≡ false → t.dock ≡ d) d (λ refused. refl) (λ none empty refused. never true refl refused)
      (λ none some refused. never true refl refused) (λ some refused. never true refl refused)
