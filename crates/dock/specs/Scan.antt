-- A scan (docs/RULES.md, sections 5 and 6). Assumes nothing.
use Rattle.std.specs.Prelude.{Bool, not, List, [], ℕ, eqb, length, Ok, Err}
use Rattle.basics.specs.Choice.{pick, both}
use Rattle.basics.specs.Said.{Said, accepted, refused}
use Rattle.phantom.specs.Phantom.{is_phantom}
use Rattle.contacts.specs.Counts.{counted_of}
use Rattle.keying.specs.Changes.{turns_to}
use Rattle.keying.specs.Repeat.{ticked, repeated}
use Rattle.record.specs.declared.Dock.{Dock}
use Rattle.record.specs.Views.{contacts_of, keys_of}
use Rattle.record.specs.Parts.{with_keys, with_contacts}
use Rattle.range.specs.Range.{in_range}
use Rattle.dock.specs.declared.Refusal.TheVariants.{ScanLength, BadRecord}
use Rattle.dock.specs.Answers.{Answered, answered}
use Rattle.dock.specs.Closing.{closing}

-- Scans are listened to: scanning is on, no command waits for its value, no swap is unfinished.
unfoldable pub listening : Dock → Bool
listening d = both d.rest.scanning (both (eqb d.rest.waiting 0) (not d.rest.handover))

-- A scan is counted if the dock listens and the scan is not phantom.
unfoldable pub is_counted : Dock → List ℕ → Bool
is_counted d scan = both (listening d) (not (is_phantom scan))

-- A counted scan: the contacts, then the keys at those that turned, in the order of positions.
unfoldable pub counting : Dock → List ℕ → Dock
counting d scan =
    let contacts = counted_of (contacts_of d) scan in
    with_keys (with_contacts d contacts)
    (turns_to 144 d.rest.mode d.types d.map d.closed contacts.closed (keys_of d))

-- What a scan changes: nothing if it is phantom.
unfoldable pub changed : Dock → List ℕ → Dock
changed d scan = pick (is_phantom scan) d (counting d scan)

-- Neither a reply nor a key byte waits.
abbrev pub quiet : Dock → Bool
quiet d = both (eqb d.rest.replies.length 0) (eqb d.rest.outgoing.queue.length 0)

-- The repeat, after the scan's changes.
unfoldable pub repeating : Dock → Dock
repeating d = with_keys d (repeated (keys_of d) d.rest.mode d.types (quiet d))

-- A scan that is listened to: one scan less to the next repeat, then its changes, then the repeat.
unfoldable pub heard_scan : Dock → List ℕ → Dock
heard_scan d scan = repeating (changed (with_keys d (ticked (keys_of d))) scan)

-- What a scan does.
unfoldable pub scanned : Dock → List ℕ → Dock
scanned d scan = pick (listening d) (heard_scan d scan) (closing d)

-- The scan call: a record out of its range is refused first, then a scan that is not 18 bytes.
unfoldable pub scan_of : Dock → List ℕ → Answered
scan_of d scan =
    pick (in_range d)
    (pick (eqb (length scan) 18) (answered (Ok tt) (scanned d scan)) (answered (Err ScanLength) d))
    (answered (Err BadRecord) d)

-- What is said of it, by the table.
unfoldable pub scan_said : Dock → List ℕ → Said
scan_said d scan = pick (in_range d) (pick (eqb (length scan) 18) (accepted []) (refused 1)) (refused 9)
