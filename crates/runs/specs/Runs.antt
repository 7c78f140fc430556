-- The runs of which demand 3 speaks (docs/RULES.md, section 13). Assumes nothing.
use Rattle.std.specs.Prelude.{ℕ, suc, ◌+◌, Bool, true, false, not, List, [], ◌∷◌, eqb, ltb, length}
use Rattle.basics.specs.Choice.{both, either, between}
use Rattle.contacts.specs.Counts.{counted_of}
use Rattle.history.specs.Rows.{says_closed}
use Rattle.history.specs.Scans.{shown_at}
use Rattle.keying.specs.Repeat.{ticked}
use Rattle.queue.specs.Queues.{waiting}
use Rattle.record.specs.declared.Dock.{Dock}
use Rattle.record.specs.Views.{contacts_of, keys_of}
use Rattle.telling.specs.Queued.{turn_bytes}
use Rattle.terminal.specs.Terminals.{begun}
use Rattle.dock.specs.Calls.{Call, Scan, Swap, Frame, Read, as_bytes}
use Rattle.runs.specs.Clearing.{is_clearing_call}
use Rattle.runs.specs.Onlookers.{is_counted_by}
use Rattle.runs.specs.Machines.{Machine, nothing_waits, key_left}
use Rattle.runs.specs.Worlds.{World, world, next}

-- The scans say of no key that it is held, by this map of the positions from `position` on.
unfoldable pub none_held_from : ℕ → List ℕ → List (List ℕ) → Bool
none_held_from position [] scans = true
none_held_from position (key ∷ keys) scans =
    both (either (eqb key 0) (not (says_closed (shown_at position scans)))) (none_held_from (suc position) keys scans)

-- Where the terminal may begin: nothing waits, and as the onlooker knows it no key is held, no command waits for its value, and set 1 or 2
-- is chosen.
unfoldable pub may_begin : Machine → World → Bool
may_begin m w =
    let o = w.onlooker in
    both (nothing_waits m w.dock) (both (none_held_from 0 o.map o.scans) (both (eqb o.waiting 0) (between 1 2 o.set)))

-- The terminal begins to read there, by the set that is chosen, with no key down.
abbrev pub beginning : World → World
beginning w = world w.dock w.onlooker w.onlooker.set begun

-- All that the keys send whose contacts turn in a scan.
unfoldable pub turning_bytes : Dock → List ℕ → List ℕ
turning_bytes d scan =
    turn_bytes 144 d.rest.mode d.types d.map d.closed (counted_of (contacts_of d) scan).closed (ticked (keys_of d))

-- A scan overruns the queue: it is counted, and what waits and what its events send are more than 16 bytes together.
unfoldable pub overruns : World → List ℕ → Bool
overruns w scan =
    let d = w.dock in
    both (is_counted_by w.onlooker (key_left d) scan) (ltb 16 (length (waiting d.rest.outgoing.queue) + length (turning_bytes d scan)))

-- A call overruns the queue; only a scan can.
abbrev pub overruns_in : World → Call → Bool
overruns_in w (Scan scan) = overruns w (as_bytes scan)
overruns_in w (Swap map) = false
overruns_in w (Frame number) = false
overruns_in w Read = false

-- In these calls no frame's byte clears the queue, and the queue does not overrun.
unfoldable pub undisturbed : Machine → World → List Call → Bool
undisturbed m w [] = true
undisturbed m w (call ∷ calls) =
    both (not (either (is_clearing_call call) (overruns_in w call))) (undisturbed m (next m w call) calls)
