-- A frame whose byte clears the queue: of the key bytes that waited none is left, and what waits then is what the end of the call put in.
-- Assumes nothing.
use mathlib.Core.Path.{◌≡◌}
use mathlib.Core.Bool.{true, false}
use mathlib.Core.List.{[]}
use Prim.Native.Nat.{ℕ}
use native.Mathlib.Omega.{arith}
use lib.Dec.{eqb, leb}
use Rattle.std.proofs.Common.{tests}
use Rattle.dock.specs.Frame.{took_frame, frame_of}
use Rattle.commands.specs.Commands.{obeyed, commanded}
use Rattle.commands.proofs.Ladder.{Mild, by_command}
use Rattle.host.specs.Values.{took_byte}
use Rattle.queue.specs.Queues.{waiting}
use Rattle.queue.proofs.Meaning.{waiting-queue_of}
use Rattle.record.specs.declared.Dock.{Dock}
use Rattle.record.specs.Power.{fresh_with}
use Rattle.range.specs.Range.{in_range}
use Rattle.dock.specs.Calls.{Frame}
use Rattle.runs.specs.Clearing.{clears, is_clearing}
use Rattle.runs.specs.Bytes.{queued_by}
use Rattle.basics.proofs.Cases.{never}
use Rattle.agreement.proofs.Queuing.{bytes_of, closing_bytes_lem}

-- A mild byte does not clear.
mild_keeps : (byte : ℕ) → Mild byte → clears byte ≡ false
unfolding clears
mild_keeps byte m = grind arith

-- A byte that clears is a command, so ED or more, and it is not FE.
clears_high : (byte : ℕ) → clears byte ≡ true → leb 0xed byte ≡ true
clears_high byte c = grind (arith, mild_keeps)

not_fe : (byte : ℕ) → clears byte ≡ true → eqb byte 0xfe ≡ false
unfolding clears
not_fe byte c = grind arith

module _ (byte : ℕ) (d : Dock) (c : clears byte ≡ true) where
  -- Each of the commands that clear leaves no byte; there is no other that clears.
  obeyed_empties : bytes_of (obeyed byte d) ≡ []
  unfolding fresh_with
  obeyed_empties =
      let none = waiting-queue_of [] in
      by_command (λ (e : Dock). bytes_of e ≡ []) byte d (λ f0. none) (λ f4. none) (λ f5. none) (λ f6. none) (λ low high. none) (λ low high. none)
      (λ ff. none) (λ m. never (clears byte) c (mild_keeps byte m))

  took_empties : bytes_of (took_byte byte d) ≡ []
  unfolding took_byte commanded
  took_empties = rw (not_fe byte c, clears_high byte c) obeyed_empties

-- The call.
pub clearing_drops : (d : Dock) (number : ℕ) → in_range d ≡ true → is_clearing number ≡ true
    → waiting (frame_of d number).dock.rest.outgoing.queue ≡ queued_by d (Frame number)
unfolding frame_of took_frame is_clearing
clearing_drops d number range = grind (arith, tests, closing_bytes_lem, took_empties)
