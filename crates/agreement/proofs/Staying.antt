-- What scans, reads and swaps leave alone: whether scanning is on, the command that waits, the mode, and but for a swap the map. Assumes
-- nothing.
use native.Mathlib.Omega.{arith}
use mathlib.Core.Path.{◌≡◌, refl}
use mathlib.Core.Bool.{Bool, true, false, not}
use mathlib.Core.List.{List}
use Prim.Native.Nat.{ℕ}
use lib.Dec.{eqb}
use lib.ListN.{length}
use Rattle.basics.specs.Choice.{pick, both}
use Rattle.basics.specs.Lists.{all_up_to}
use Rattle.basics.proofs.Cases.{picked}
use Rattle.std.specs.Prelude.{Ok, Err}
use Rattle.dock.specs.declared.Refusal.TheVariants.{MapLength, MapEntry, MapDouble}
use Rattle.dock.specs.Answers.{answered}
use Rattle.dock.specs.Closing.{closing}
use Rattle.dock.specs.Read.{remembering, read_of}
use Rattle.dock.specs.Scan.{counting, changed, repeating, heard_scan, scan_of}
use Rattle.dock.specs.Swap.{opened, remapped, swapped, swap_of}
use Rattle.keying.specs.Repeat.{ticked}
use Rattle.keys.specs.Keys.{last_key}
use Rattle.maps.specs.Maps.{has_double}
use Rattle.phantom.specs.Phantom.{is_phantom}
use Rattle.range.specs.Range.{in_range}
use Rattle.record.specs.declared.Dock.{Dock}
use Rattle.record.specs.Views.{keys_of}
use Rattle.record.specs.Parts.{with_keys}
use Rattle.runs.specs.Onlookers.{is_map}
use Rattle.dock.proofs.Calls.{scan_keeps, read_keeps}

-- Scanning, the command that waits and the mode stay, and this is the map then.
abbrev pub Stays : List ℕ → Dock → Dock → Type 0
Stays map d e = (e.map ≡ map) × (e.rest.scanning ≡ d.rest.scanning) × (e.rest.waiting ≡ d.rest.waiting) × (e.rest.mode ≡ d.rest.mode)

module _ (map : List ℕ) (d : Dock) where
  closing_stays : (e : Dock) → Stays map d e → Stays map d (closing e)
  unfolding closing
  closing_stays e s = grind arith

-- A scan.
pub scan_stays : (d : Dock) (scan : List ℕ) → Stays d.map d (scan_of d scan).dock
unfolding heard_scan changed counting repeating
scan_stays d scan =
    let same : Stays d.map d d = (refl, refl, refl, refl) in
    let still = with_keys d (ticked (keys_of d)) in
    scan_keeps (Stays d.map d) (closing_stays d.map d) d same scan
    (picked (λ (e : Dock). Stays d.map d (repeating e)) (is_phantom scan) still (counting still scan) same same)

-- A read.
pub read_stays : (d : Dock) → Stays d.map d (read_of d).dock
unfolding remembering
read_stays d =
    let same : Stays d.map d d = (refl, refl, refl, refl) in
    read_keeps (Stays d.map d) (closing_stays d.map d) d same (λ byte. same) (λ byte. same)

-- A swap.
pub swap_stays : (d : Dock) (map : List ℕ) → in_range d ≡ true → Stays (pick (is_map map) map d.map) d (swap_of d map).dock
unfolding swap_of swapped is_map remapped opened
swap_stays d map range = rw range (go (eqb (length map) 144) (all_up_to last_key map) (has_double map))
  where
    same : Stays d.map d d
    same = (refl, refl, refl, refl)

    new : Stays map d (closing (remapped d map))
    new = closing_stays map d (remapped d map) (picked (Stays map d) d.rest.handover _ (opened d map) (refl, refl, refl, refl) (refl, refl, refl, refl))

    go : (long entries double : Bool)
        → Stays (pick (both long (both entries (not double))) map d.map) d
        (pick long (pick entries (pick double (answered (Err MapDouble) d) (answered (Ok tt) (swapped d map))) (answered (Err MapEntry) d)) (answered (Err MapLength) d)).dock
    go false entries double = same
    go true false double = same
    go true true true = same
    go true true false = new
