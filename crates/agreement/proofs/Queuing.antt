-- What the end of a call and what a scan put into the queue goes behind the bytes that wait, unless the scan overruns it. Assumes nothing.
use native.Mathlib.Omega.{arith}
use mathlib.Core.Path.{◌≡◌, ap, ◌∙◌}
use mathlib.Core.Bool.{Bool, true, false, not}
use mathlib.Core.List.{List, [], ◌++◌, append-nil, append_assoc}
use Prim.Native.Nat.{ℕ}
use lib.Dec.{eqb}
use lib.ListN.{length}
use Rattle.basics.specs.Choice.{pick, both}
use Rattle.phantom.specs.Phantom.{is_phantom}
use Rattle.contacts.specs.Counts.{counted_of}
use Rattle.dock.specs.Answers.{is_accepted}
use Rattle.dock.specs.Closing.{closing}
use Rattle.dock.specs.Scan.{is_counted, counting, changed, quiet, repeating, heard_scan, scanned, scan_of}
use Rattle.keying.specs.Repeat.{ticked, repeated}
use Rattle.queue.specs.Queues.{waiting}
use Rattle.queue.proofs.Meaning.{waiting-queue_of}
use Rattle.record.specs.declared.Mode.{Mode}
use Rattle.record.specs.Views.{Keys, keys_of, contacts_of}
use Rattle.record.specs.Parts.{with_keys}
use Rattle.record.specs.declared.Dock.{Dock}
use Rattle.range.specs.Range.{in_range}
use Rattle.runs.specs.Bytes.{repeat_bytes, change_bytes, heard_bytes, closing_bytes, scan_bytes}
use Rattle.telling.specs.Queued.{turn_bytes}
use Rattle.telling.proofs.Whole.{turns_whole, handed_whole}
use Rattle.agreement.proofs.Overrunning.{changes_overrun, scan_overruns}
use Rattle.agreement.proofs.Following.{none_wait}

-- What waits in a dock.
abbrev pub bytes_of : Dock → List ℕ
bytes_of d = waiting d.rest.outgoing.queue

-- The end of a call.
pub closing_bytes_lem : (d : Dock) → bytes_of (closing d) ≡ bytes_of d ++ closing_bytes d
unfolding closing closing_bytes
closing_bytes_lem d = grind (arith, handed_whole, append-nil)

-- A repeat is sent only where nothing waits.
repeated_bytes : (m : Mode) (types : List ℕ) (k : Keys) (quiet : Bool) → (quiet ≡ true → waiting k.queue ≡ [])
    → waiting (repeated k m types quiet).queue ≡ waiting k.queue ++ repeat_bytes k m types quiet
unfolding repeated repeat_bytes
repeated_bytes m types k quiet none = grind (arith, append-nil, waiting-queue_of)

repeating_bytes : (d : Dock) → bytes_of (repeating d) ≡ bytes_of d ++ repeat_bytes (keys_of d) d.rest.mode d.types (quiet d)
unfolding repeating
repeating_bytes d = grind (arith, repeated_bytes, none_wait)

module _ (d : Dock) (scan : List ℕ) where
  still : Dock
  still = with_keys d (ticked (keys_of d))

  heard_bytes_lem : both (not (is_phantom scan)) (changes_overrun d scan) ≡ false → bytes_of (heard_scan d scan) ≡ bytes_of d ++ heard_bytes d scan
  unfolding still changes_overrun heard_scan heard_bytes changed change_bytes counting
  heard_bytes_lem = go (is_phantom scan)
    where
      turned : List ℕ
      turned = turn_bytes 144 d.rest.mode d.types d.map d.closed (counted_of (contacts_of d) scan).closed (ticked (keys_of d))

      repeats : Dock → List ℕ
      repeats e = repeat_bytes (keys_of e) e.rest.mode e.types (quiet e)

      go : (phantom : Bool) → both (not phantom) (changes_overrun d scan) ≡ false
          → bytes_of (repeating (pick phantom still (counting still scan)))
          ≡ bytes_of d ++ (pick phantom [] turned ++ repeats (pick phantom still (counting still scan)))
      go true room = repeating_bytes still
      go false room =
          let then = counting still scan in
          repeating_bytes then
          ∙ ap (λ (l : List ℕ). l ++ repeats then)
          (turns_whole d.rest.mode d.types d.map 144 d.closed (counted_of (contacts_of d) scan).closed (ticked (keys_of d)) room)
          ∙ append_assoc (bytes_of d) turned (repeats then)

  scanned_bytes : scan_overruns d scan ≡ false → bytes_of (scanned d scan) ≡ bytes_of d ++ scan_bytes d scan
  unfolding scanned scan_bytes scan_overruns is_counted
  scanned_bytes = grind (arith, heard_bytes_lem, closing_bytes_lem)

  -- The call, refused or not.
  pub scan_bytes_lem : in_range d ≡ true → both (eqb (length scan) 18) (scan_overruns d scan) ≡ false
      → bytes_of (scan_of d scan).dock ≡ bytes_of d ++ pick (is_accepted (scan_of d scan).answer) (scan_bytes d scan) []
  unfolding scan_of
  scan_bytes_lem range = grind (arith, scanned_bytes, append-nil)
