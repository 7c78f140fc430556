-- What calls leave as it is: a frame the map, a scan the types too, and a read also the contacts. Assumes nothing.
use mathlib.Core.Path.{◌≡◌, refl}
use mathlib.Core.List.{List}
use Prim.Native.Nat.{ℕ}
use native.Mathlib.Omega.{arith}
use Rattle.basics.proofs.Cases.{picked}
use Rattle.phantom.specs.Phantom.{is_phantom}
use Rattle.commands.specs.Commands.{commanded}
use Rattle.commands.proofs.Ladder.{by_command}
use Rattle.host.specs.Values.{took_byte}
use Rattle.host.proofs.Ladder.{by_value, by_byte}
use Rattle.record.specs.declared.Dock.{Dock}
use Rattle.record.specs.Parts.{dock_with}
use Rattle.record.specs.Power.{fresh_with}
use Rattle.dock.specs.Answers.{taken}
use Rattle.dock.specs.Closing.{closing}
use Rattle.dock.specs.Scan.{counting, changed, repeating, heard_scan, scan_of}
use Rattle.dock.specs.Frame.{frame_of}
use Rattle.dock.specs.Read.{remembering, reply_taken, key_byte_taken, read, read_of}
use Rattle.dock.proofs.Calls.{scan_keeps, frame_keeps, read_keeps}

-- Of two records: the same map, also the same types, also the same contacts.
abbrev pub SameMap : Dock → Dock → Type 0
SameMap d e = e.map ≡ d.map

abbrev pub SamePanel : Dock → Dock → Type 0
SamePanel d e = (e.map ≡ d.map) × (e.types ≡ d.types)

abbrev pub SameContacts : Dock → Dock → Type 0
SameContacts d e = (e.map ≡ d.map) × (e.types ≡ d.types) × (e.closed ≡ d.closed) × (e.counts ≡ d.counts)

module _ (d : Dock) where
  -- The end of a call changes keys alone.
  ends_map : (e : Dock) → SameMap d e → SameMap d (closing e)
  unfolding closing
  ends_map e s = picked (SameMap d) e.rest.handover _ _ s s

  ends_panel : (e : Dock) → SamePanel d e → SamePanel d (closing e)
  unfolding closing
  ends_panel e s = picked (SamePanel d) e.rest.handover _ _ s s

  ends_contacts : (e : Dock) → SameContacts d e → SameContacts d (closing e)
  unfolding closing
  ends_contacts e s = picked (SameContacts d) e.rest.handover _ _ s s

  pub scan_leaves : (scan : List ℕ) → SamePanel d (scan_of d scan).dock
  unfolding heard_scan repeating changed counting
  scan_leaves scan =
      scan_keeps (SamePanel d) ends_panel d (refl, refl) scan
      (picked (λ (e : Dock). SamePanel d (repeating e)) (is_phantom scan) _ _ (refl, refl) (refl, refl))

  pub took_leaves : (byte : ℕ) → SameMap d (took_byte byte d)
  unfolding commanded fresh_with
  took_leaves byte =
      by_byte (SameMap d) byte d (λ fe. refl)
      (λ other high. by_command (SameMap d) byte d (λ f0. refl) (λ f4. refl) (λ f5. refl) (λ f6. refl)
      (λ low high. refl) (λ low high. refl) (λ ff. refl) (λ none. refl))
      (λ low. by_value (SameMap d) byte d refl (λ f0. refl) refl refl refl refl)

  pub frame_leaves : (number : ℕ) → SameMap d (frame_of d number).dock
  frame_leaves number = frame_keeps (SameMap d) ends_map d refl number took_leaves refl

  pub read_leaves : SameContacts d (read_of d).dock
  unfolding remembering
  read_leaves =
      read_keeps (SameContacts d) ends_contacts d (refl, refl, refl, refl)
      (λ byte. (refl, refl, refl, refl)) (λ byte. (refl, refl, refl, refl))

-- Nor does a read look at map or contacts: with others it gives the same, and leaves the same beside them.
abbrev pub beside : List ℕ → List ℕ → List ℕ → Dock → Dock
beside map closed counts d = dock_with map closed counts d.held d.types d.rest

pub read_beside : (d : Dock) (map closed counts : List ℕ)
    → read (beside map closed counts d) ≡ taken (read d).given (beside map closed counts (read d).dock)
unfolding read reply_taken key_byte_taken remembering closing
read_beside d map closed counts = grind arith
