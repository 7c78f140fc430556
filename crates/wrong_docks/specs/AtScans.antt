-- Docks that are wrong at a scan (docs/RULES.md, sections 5 to 7). Assumes nothing.
use Rattle.std.specs.Prelude.{ℕ, Bool, true, false, not, List, [], ◌∷◌, ◌++◌, eqb, get_or, length, replicate}
use Rattle.basics.specs.Choice.{pick, both, either}
use Rattle.basics.specs.Lists.{all_up_to}
use Rattle.codes.specs.declared.Action.TheVariants.{Repeat}
use Rattle.contacts.specs.Counts.{contacts}
use Rattle.dock.specs.Scan.{listening, counting, repeating, scan_of}
use Rattle.keying.specs.Repeat.{ticked}
use Rattle.phantom.specs.Phantom.{is_phantom}
use Rattle.queue.specs.Queues.{waiting, queue_of, has_room}
use Rattle.record.specs.Views.{keys_of, with_queue, with_repeat}
use Rattle.record.specs.Parts.{with_waiting, with_scanning, with_handover, with_keys, with_contacts}
use Rattle.record.specs.declared.Dock.{Dock}
use Rattle.runs.specs.Machines.{Machine}
use Rattle.sending.specs.Sending.{sends, queued_of}
use Rattle.wrong_docks.specs.Docks.{scanning_by}

-- Scans are counted while a command waits for its value,
abbrev pub counts_while_command_waits : Machine
counts_while_command_waits = scanning_by (λ (d : Dock) (scan : List ℕ). with_waiting (scan_of (with_waiting d 0) scan).dock d.rest.waiting)

-- while scanning is off,
abbrev pub counts_while_scanning_off : Machine
counts_while_scanning_off = scanning_by (λ (d : Dock) (scan : List ℕ). with_scanning (scan_of (with_scanning d true) scan).dock d.rest.scanning)

-- while a swap is unfinished,
abbrev pub counts_during_handover : Machine
counts_during_handover =
    scanning_by (λ (d : Dock) (scan : List ℕ).
    pick d.rest.handover (with_handover (scan_of (with_handover d false) scan).dock true) (scan_of d scan).dock)

-- though they are phantom,
abbrev pub counts_phantoms : Machine
counts_phantoms =
    scanning_by (λ (d : Dock) (scan : List ℕ).
    pick (both (listening d) (is_phantom scan)) (repeating (counting (with_keys d (ticked (keys_of d))) scan)) (scan_of d scan).dock)

-- or twice, so that two are enough.
abbrev pub counts_twice : Machine
counts_twice = scanning_by (λ (d : Dock) (scan : List ℕ). (scan_of (scan_of d scan).dock scan).dock)

-- Two columns side by side share two rows.
abbrev pub next_door : List ℕ → Bool
next_door [] = false
next_door (x ∷ []) = false
next_door (x ∷ y ∷ rest) = either (is_phantom (x ∷ y ∷ [])) (next_door (y ∷ rest))

-- Only neighbouring columns are held against each other in the phantom test.
abbrev pub phantom_next_door : Machine
phantom_next_door =
    scanning_by (λ (d : Dock) (scan : List ℕ).
    pick (both (listening d) (both (is_phantom scan) (not (next_door scan)))) (repeating (counting (with_keys d (ticked (keys_of d))) scan)) (scan_of d scan).dock)

-- Two scans that show a contact open are enough.
abbrev pub two_open_are_enough : Machine
two_open_are_enough = scanning_by (λ (d : Dock) (scan : List ℕ). pick (both (all_up_to 0 scan) (not (all_up_to 0 d.closed))) (scan_of (scan_of d scan).dock scan).dock (scan_of d scan).dock)

-- 17 bytes are taken for a scan.
abbrev pub takes_short_scans : Machine
takes_short_scans = scanning_by (λ (d : Dock) (scan : List ℕ). pick (eqb (length scan) 17) (scan_of d (scan ++ 0 ∷ [])).dock (scan_of d scan).dock)

-- A phantom scan ends the rows of scans, where it is to be passed over;
abbrev pub phantom_breaks_row : Machine
phantom_breaks_row =
    scanning_by (λ (d : Dock) (scan : List ℕ).
    let e = (scan_of d scan).dock in
    pick (both (listening d) (is_phantom scan)) (with_contacts e (contacts e.closed (replicate 144 0))) e)

-- so does one that comes while a command waits, scanning is off or a swap is unfinished.
abbrev pub passed_over_breaks_row : Machine
passed_over_breaks_row =
    scanning_by (λ (d : Dock) (scan : List ℕ).
    let e = (scan_of d scan).dock in
    pick (listening d) e (with_contacts e (contacts e.closed (replicate 144 0))))

-- Scans are passed over once one has shown something,
abbrev pub handles_first_scan_only : Machine
handles_first_scan_only = scanning_by (λ (d : Dock) (scan : List ℕ). pick (all_up_to 0 d.counts) (scan_of d scan).dock d)

-- while a reply waits,
abbrev pub deaf_while_reply_waits : Machine
deaf_while_reply_waits = scanning_by (λ (d : Dock) (scan : List ℕ). pick (eqb d.rest.replies.length 0) (scan_of d scan).dock d)

-- or while the queue is full.
abbrev pub deaf_while_full : Machine
deaf_while_full = scanning_by (λ (d : Dock) (scan : List ℕ). pick (eqb (length (waiting d.rest.outgoing.queue)) 16) d (scan_of d scan).dock)

-- The last place of the queue is not used: what would fill it is dropped.
abbrev pub queue_of15 : Machine
queue_of15 =
    scanning_by (λ (d : Dock) (scan : List ℕ).
    let e = (scan_of d scan).dock in
    pick (eqb (length (waiting e.rest.outgoing.queue)) 16) (with_keys e (with_queue (keys_of e) d.rest.outgoing.queue)) e)

-- Nothing is sent.
abbrev pub sends_nothing : Machine
sends_nothing = scanning_by (λ (d : Dock) (scan : List ℕ). let e = (scan_of d scan).dock in with_keys e (with_queue (keys_of e) (queue_of [])))

-- A repeat goes on after its key came up.
abbrev pub repeat_goes_on_after_release : Machine
repeat_goes_on_after_release =
    scanning_by (λ (d : Dock) (scan : List ℕ).
    let e = (scan_of d scan).dock in
    pick (both (not (eqb d.rest.outgoing.repeating 0)) (eqb e.rest.outgoing.repeating 0)) (with_keys e (with_repeat (keys_of e) d.rest.outgoing.repeating d.rest.outgoing.countdown)) e)

-- A repeat queued behind what waits.
abbrev pub repeat_behind : Bool → Dock → Dock
repeat_behind marks e =
    let k = keys_of e in
    let bytes = sends k e.rest.mode (get_or e.types k.repeating 0) k.repeating Repeat in
    pick (either marks (has_room (waiting k.queue) (length bytes))) (with_keys e (with_queue k (queued_of k.queue e.rest.mode bytes))) e

-- A repeat falls due in a scan while key bytes wait.
abbrev pub lost_repeat : Dock → Dock → Bool
lost_repeat d e =
    both (listening d)
    (both (eqb d.rest.outgoing.countdown 1)
    (both (not (eqb e.rest.outgoing.repeating 0))
    (both (eqb e.rest.outgoing.repeating d.rest.outgoing.repeating) (not (eqb (length (waiting d.rest.outgoing.queue)) 0)))))

-- A repeat that falls due while key bytes wait is queued, and leaves the mark where it does not fit.
abbrev pub repeats_overrun : Machine
repeats_overrun = scanning_by (λ (d : Dock) (scan : List ℕ). let e = (scan_of d scan).dock in pick (lost_repeat d e) (repeat_behind true e) e)
