-- What the onlooker knows is so: the map, whether scanning is on, the command that waits and the set are those of the dock, whatever is
-- called. And the set stays where no byte clears the queue. Assumes nothing.
use mathlib.Core.Path.{◌≡◌, refl, ap, ap₂, ◌∙◌}
use mathlib.Core.Bool.{Bool, true, false}
use mathlib.Core.List.{List, [], ◌∷◌}
use Prim.Native.Nat.{ℕ, ◌≤◌, ◌<◌}
use native.Mathlib.Omega.{arith}
use Rattle.std.proofs.Common.{tests}
use Rattle.std.specs.Prelude.{Result, Ok, Err}
use Rattle.basics.specs.Choice.{pick}
use Rattle.commands.specs.Commands.{obeyed, replying, commanded}
use Rattle.commands.proofs.Ladder.{Mild, by_command}
use Rattle.dock.specs.Closing.{closing}
use Rattle.dock.specs.Frame.{took_frame, frame_of}
use Rattle.dock.specs.Read.{read_of}
use Rattle.dock.specs.Scan.{scan_of}
use Rattle.dock.specs.Swap.{swap_of}
use Rattle.dock.proofs.Keeping.{took_leaves}
use Rattle.frames.specs.declared.FrameError.{FrameError}
use Rattle.frames.specs.declared.FrameError.TheVariants.{Broken, TooLarge}
use Rattle.frames.specs.Frames.{unpacked_of}
use Rattle.host.specs.Values.{asked_of, valued, took_value, took_byte}
use Rattle.host.proofs.Ladder.{by_value, by_byte}
use Rattle.range.specs.Range.{in_range}
use Rattle.record.specs.declared.Dock.{Dock}
use Rattle.record.specs.Power.{fresh_with}
use Rattle.runs.specs.Clearing.{is_clearing}
use Rattle.runs.specs.Onlookers.{Onlooker, saw_scan, saw_swap, scanning_after, waiting_after, set_after, saw_byte, saw_frame}
use Rattle.runs.specs.Rules.{one_of}
use Rattle.agreement.proofs.Rules.{waits_same, sets_same, right_same}
use Rattle.agreement.proofs.Framed.{mild, obeyed_mild}
use Rattle.agreement.proofs.Staying.{scan_stays, read_stays, swap_stays}

-- A byte from the host that turns scanning neither on nor off.
unturned : (byte : ℕ) (scanning : Bool) → (byte ≡ 0xf4 → ⊥) → (byte ≡ 0xf5 → ⊥) → (byte ≡ 0xff → ⊥) → scanning ≡ scanning_after byte scanning
unfolding scanning_after
unturned byte scanning a b c = grind arith

-- One that chooses no set, among the commands,
unchosen : (byte set : ℕ) → (byte ≡ 0xf5 → ⊥) → (byte ≡ 0xf6 → ⊥) → (byte ≡ 0xff → ⊥)
    → set ≡ pick (one_of byte (0xf5 ∷ 0xf6 ∷ 0xff ∷ [])) 2 set
unfolding one_of
unchosen byte set a b c = grind arith

-- which are no sets,
high_chosen : (byte waiting set : ℕ) → 0xed ≤ byte → set_after byte waiting set ≡ pick (one_of byte (0xf5 ∷ 0xf6 ∷ 0xff ∷ [])) 2 set
unfolding set_after
high_chosen byte waiting set high = grind (arith, sets_same)

-- and among the values, which are no commands.
low_chosen : (byte : ℕ) → byte < 0xed → one_of byte (0xf5 ∷ 0xf6 ∷ 0xff ∷ []) ≡ false
unfolding one_of
low_chosen byte low = grind arith

-- A mild byte is none of those from F4 to FD.
mild_not : {byte : ℕ} → Mild byte → (n : ℕ) → 0xf4 ≤ n → n ≤ 0xfd → byte ≡ n → ⊥
mild_not m n low high is = grind arith

module _ (d : Dock) (byte : ℕ) where
  took_scanning : (took_byte byte d).rest.scanning ≡ scanning_after byte d.rest.scanning
  unfolding commanded scanning_after fresh_with
  took_scanning =
      let Turned : Dock → Type 0 = λ (e : Dock). e.rest.scanning ≡ scanning_after byte d.rest.scanning in
      let low-stays : byte < 0xed → d.rest.scanning ≡ scanning_after byte d.rest.scanning =
      λ low. unturned byte d.rest.scanning (λ e. omega arith) (λ e. omega arith) (λ e. omega arith) in
      by_byte Turned byte d (λ fe. rw fe)
      (λ other high. by_command Turned byte d
      (λ f0. rw f0)
      (λ f4. rw f4)
      (λ f5. rw f5)
      (λ f6. rw f6)
      (λ low high. unturned byte d.rest.scanning (λ e. omega arith) (λ e. omega arith) (λ e. omega arith))
      (λ low high. unturned byte d.rest.scanning (λ e. omega arith) (λ e. omega arith) (λ e. omega arith))
      (λ ff. rw ff)
      (λ m. unturned byte d.rest.scanning (mild_not m 0xf4 (omega arith) (omega arith)) (mild_not m 0xf5 (omega arith) (omega arith)) m.not_ff))
      (λ low.
      let same = low-stays low in
      by_value Turned byte d same (λ f0. same) same same same same)

  took_waiting : (took_byte byte d).rest.waiting ≡ waiting_after byte d.rest.waiting
  unfolding took_byte commanded waiting_after valued
  took_waiting = grind (arith, waits_same, right_same)

  -- A command: F5, F6 and FF choose set 2, and no other chooses one.
  Chosen : Dock → Type 0
  Chosen e = e.rest.mode.set ≡ pick (one_of byte (0xf5 ∷ 0xf6 ∷ 0xff ∷ [])) 2 d.rest.mode.set

  obeyed_chosen : Chosen (obeyed byte d)
  unfolding one_of fresh_with Chosen
  obeyed_chosen =
      by_command Chosen byte d
      (λ f0. rw f0)
      (λ f4. rw f4)
      (λ f5. rw f5)
      (λ f6. rw f6)
      (λ low high. unchosen byte d.rest.mode.set (λ e. omega arith) (λ e. omega arith) (λ e. omega arith))
      (λ low high. unchosen byte d.rest.mode.set (λ e. omega arith) (λ e. omega arith) (λ e. omega arith))
      (λ ff. rw ff)
      (λ m. unchosen byte d.rest.mode.set (mild_not m 0xf5 (omega arith) (omega arith)) (mild_not m 0xf6 (omega arith) (omega arith)) m.not_ff)

  -- A value: one of F0 that is a set is the set.
  value_chosen : byte < 0xed → (took_value byte d).rest.mode.set ≡ set_after byte d.rest.waiting d.rest.mode.set
  unfolding valued asked_of set_after
  value_chosen low = grind (arith, tests, low_chosen, sets_same)

  took_chosen : (took_byte byte d).rest.mode.set ≡ set_after byte d.rest.waiting d.rest.mode.set
  unfolding took_byte commanded Chosen
  took_chosen = grind (arith, unchosen, high_chosen, obeyed_chosen, value_chosen)

  -- Only F0 and its value choose a set.
  took_set : Mild byte → (d.rest.waiting ≡ 0xf0 → ⊥) → (took_byte byte d).rest.mode.set ≡ d.rest.mode.set
  unfolding commanded
  took_set m firm =
      let Same : Dock → Type 0 = λ (e : Dock). e.rest.mode.set ≡ d.rest.mode.set in
      by_byte Same byte d (λ fe. refl) (λ other high. ap (λ (e : Dock). e.rest.mode.set) (obeyed_mild byte d m))
      (λ low. by_value Same byte d refl (λ f0. absurd (firm f0)) refl refl refl refl)

-- What the onlooker knows is so.
abbrev pub Knows : Dock → Onlooker → Type 0
Knows d o = (d.map ≡ o.map) × (d.rest.scanning ≡ o.scanning) × (d.rest.waiting ≡ o.waiting) × (d.rest.mode.set ≡ o.set)

closing_knows : (e : Dock) (o : Onlooker) → Knows e o → Knows (closing e) o
unfolding closing
closing_knows e o k = grind arith

closing_set : (e : Dock) → (closing e).rest.mode.set ≡ e.rest.mode.set
unfolding closing
closing_set e = grind arith

module _ (d : Dock) (o : Onlooker) (k : Knows d o) (range : in_range d ≡ true) where
  pub scan_knows : (left : Bool) (scan : List ℕ) → Knows (scan_of d scan).dock (saw_scan left scan o)
  unfolding saw_scan
  scan_knows left scan = grind (arith, scan_stays)

  pub read_knows : Knows (read_of d).dock o
  read_knows = grind (arith, read_stays)

  pub swap_knows : (map : List ℕ) → Knows (swap_of d map).dock (saw_swap map o)
  unfolding saw_swap
  swap_knows map = grind (arith, swap_stays)

  pub frame_knows : (number : ℕ) → Knows (frame_of d number).dock (saw_frame (unpacked_of number) o)
  unfolding frame_of took_frame saw_byte
  frame_knows number = rw range (go (unpacked_of number))
    where
      go : (u : Result ℕ FrameError) → Knows (took_frame u d).dock (saw_frame u o)
      go (Ok byte) =
          closing_knows (took_byte byte d) (saw_byte byte o) (
            took_leaves d byte ∙ k.0,
            took_scanning d byte ∙ ap (scanning_after byte) k.1,
            took_waiting d byte ∙ ap (waiting_after byte) k.2,
            took_chosen d byte ∙ ap₂ (set_after byte) k.2 k.3,
          )
      go (Err Broken) = closing_knows (replying (0xfe ∷ []) d) o k
      go (Err TooLarge) = k

-- The set after a frame that does not clear the queue, where none is being chosen.
pub frame_set : (d : Dock) (number : ℕ) → in_range d ≡ true → is_clearing number ≡ false → (d.rest.waiting ≡ 0xf0 → ⊥)
    → (frame_of d number).dock.rest.mode.set ≡ d.rest.mode.set
unfolding frame_of took_frame is_clearing
frame_set d number range c firm = grind (arith, closing_set, took_set, mild)
