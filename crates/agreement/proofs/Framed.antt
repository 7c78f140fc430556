-- A frame leaves a settled dock settled, with no scan counted since a reset; and unless its byte clears the queue, the terminal goes on
-- following. Assumes nothing.
use mathlib.Core.Path.{◌≡◌, refl}
use mathlib.Core.Logic.{inl, ⊎_elim}
use mathlib.Core.Bool.{Bool, true, false}
use mathlib.Core.List.{List, [], ◌∷◌}
use Prim.Native.Nat.{ℕ, ◌≤◌}
use native.Mathlib.Omega.{arith}
use borrow.Author.Tests.{eqb-true, eqb-false}
use lib.Dec.{eqb}
use Rattle.std.specs.Prelude.{Result, Ok, Err}
use Rattle.basics.specs.Choice.{pick}
use Rattle.dock.specs.Frame.{took_frame, frame_of}
use Rattle.frames.specs.declared.FrameError.{FrameError}
use Rattle.frames.specs.declared.FrameError.TheVariants.{Broken, TooLarge}
use Rattle.frames.specs.Frames.{unpacked_of}
use Rattle.history.specs.Scans.{counted_all}
use Rattle.commands.specs.Commands.{replying, cleared, unrepeated, restarted, obeyed, commanded}
use Rattle.commands.proofs.Ladder.{Mild, by_command}
use Rattle.host.specs.Values.{took_byte}
use Rattle.host.proofs.Ladder.{by_value, by_byte}
use Rattle.queue.proofs.Meaning.{places-queue_of}
use Rattle.record.specs.declared.Dock.{Dock}
use Rattle.record.specs.Parts.{with_waiting}
use Rattle.record.specs.Power.{fresh_with}
use Rattle.range.specs.Range.{in_range}
use Rattle.runs.specs.Clearing.{clears, carries, is_clearing}
use Rattle.runs.specs.Onlookers.{Onlooker, saw_byte, saw_frame}
use Rattle.telling.proofs.Held.{none_agree, contact_open}
use Rattle.basics.proofs.Zeros.{zeros_at}
use Rattle.terminal.specs.Terminals.{Terminal}
use Rattle.agreement.proofs.Following.{Follows, closing_follows}
use Rattle.agreement.proofs.Ready.{IsReady, Settled, closing_settled}

module _ (scans : List (List ℕ)) where
  -- No key byte waits any more; no key repeats.
  cleared_ready : (d : Dock) → IsReady d scans → IsReady (cleared d) scans
  cleared_ready d r = grind (arith, places-queue_of)

  unrepeated_ready : (d : Dock) → IsReady d scans → IsReady (unrepeated d) scans
  unrepeated_ready d r = grind arith

-- The dock after a reset.
fresh_ready : (d : Dock) (scans : List (List ℕ)) → IsReady d scans → IsReady (restarted d) []
unfolding fresh_with counted_all
fresh_ready d scans r =
    record {
      long = r.long;
      entries = r.entries;
      single = r.single;
      places = record { flags = refl; bytes = places-queue_of [] (omega arith) };
      outside = λ key h. zeros_at 144 key;
      repeats = inl refl;
      seen = refl;
      agree = λ shut. none_agree d.map _ _ (zeros_at 144) (λ position h. contact_open 18 position);
      anew = λ begun. refl;
    }

module _ (d : Dock) (scans : List (List ℕ)) (r : IsReady d scans) (byte : ℕ) where
  abbrev Fine : Dock → Type 0
  Fine e = IsReady e scans

  -- Any command but the reset.
  obeyed_ready : (byte ≡ 0xff → ⊥) → IsReady (obeyed byte d) scans
  obeyed_ready other =
      let clear : Fine (cleared d) = cleared_ready scans d r in
      let calm : Fine (unrepeated (cleared d)) = unrepeated_ready scans (cleared d) clear in
      by_command Fine byte d (λ f0. calm) (λ f4. calm) (λ f5. calm) (λ f6. calm) (λ low high. clear) (λ low high. clear)
      (λ ff. absurd (other ff)) (λ none. r)

  -- Any byte.
  took_ready : IsReady (took_byte byte d) (pick (eqb byte 0xff) [] scans)
  unfolding took_byte commanded obeyed
  took_ready = go (eqb byte 0xff) refl
    where
      go : (reset : Bool) → eqb byte 0xff ≡ reset → IsReady (took_byte byte d) (pick reset [] scans)
      go true e = rw (eqb-true byte 0xff e) (fresh_ready d scans r)
      go false e =
          by_byte Fine byte d (λ fe. r) (λ other high. obeyed_ready (eqb-false byte 0xff e))
          (λ low. by_value Fine byte d r (λ f0. r) r r r r)

-- The call, refused or not.
pub frame_settled : (d : Dock) (o : Onlooker) (number : ℕ) → in_range d ≡ true → Settled d o.scans
    → Settled (frame_of d number).dock (saw_frame (unpacked_of number) o).scans
unfolding frame_of took_frame saw_byte
frame_settled d o number range s = rw range (go (unpacked_of number))
  where
    go : (u : Result ℕ FrameError) → Settled (took_frame u d).dock (saw_frame u o).scans
    go (Ok byte) = closing_settled (took_byte byte d) (pick (eqb byte 0xff) [] o.scans) (took_ready d o.scans s.ready byte)
    go (Err Broken) = closing_settled (replying (0xfe ∷ []) d) o.scans s.ready
    go (Err TooLarge) = s

-- A byte that does not clear the queue is none of the commands that do something.
pub mild : (byte : ℕ) → clears byte ≡ false → Mild byte
unfolding clears
mild byte c = grind arith

-- A mild command changes nothing.
pub obeyed_mild : (byte : ℕ) (d : Dock) → Mild byte → obeyed byte d ≡ d
obeyed_mild byte d m =
    let outside : 0xf4 ≤ byte → byte ≤ 0xfd → ⊥ = λ low high. ⊎_elim (λ l. omega arith) (λ l. omega arith) m.apart in
    by_command (λ (e : Dock). e ≡ d) byte d
    (λ f0. absurd (m.not_f0 f0))
    (λ f4. absurd (outside (omega arith) (omega arith)))
    (λ f5. absurd (outside (omega arith) (omega arith)))
    (λ f6. absurd (outside (omega arith) (omega arith)))
    (λ low high. absurd (outside (omega arith) (omega arith)))
    (λ low high. absurd (outside (omega arith) (omega arith)))
    (λ ff. absurd (m.not_ff ff))
    (λ none. refl)

module _ (d : Dock) (t : Terminal) (f : Follows d t) (byte : ℕ) where
  commanded_follows : Mild byte → Follows (commanded byte d) t
  unfolding commanded
  commanded_follows m = grind (arith, obeyed_mild)

  -- Any byte; of the values only that of F0 chooses a set.
  took_follows : clears byte ≡ false → Follows (took_byte byte d) t
  took_follows c =
      let same : Follows (with_waiting d 0) t = record { chosen = f.chosen; firm = λ e. omega arith; told = f.told } in
      by_byte (λ (e : Dock). Follows e t) byte d (λ fe. f) (λ other high. commanded_follows (mild byte c))
      (λ low. by_value (λ (e : Dock). Follows e t) byte d same (λ f0. absurd (f.firm f0)) same same same f)

-- The call, refused or not.
pub frame_follows : (d : Dock) (t : Terminal) (number : ℕ) → in_range d ≡ true → is_clearing number ≡ false → Follows d t
    → Follows (frame_of d number).dock t
unfolding frame_of took_frame is_clearing
frame_follows d t number range c f = rw range (go (unpacked_of number) c)
  where
    go : (u : Result ℕ FrameError) → carries clears u ≡ false → Follows (took_frame u d).dock t
    go (Ok byte) c = closing_follows (took_byte byte d) t (took_follows d t f byte c)
    go (Err Broken) c = closing_follows (replying (0xfe ∷ []) d) t f
    go (Err TooLarge) c = f
