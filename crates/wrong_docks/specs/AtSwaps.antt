-- Docks that are wrong at a swap, or while one is unfinished (docs/RULES.md, section 8). Assumes nothing.
use Rattle.std.specs.Prelude.{ℕ, Bool, true, false, not, List, [], ◌++◌, eqb, length, replicate, take}
use Rattle.basics.specs.Choice.{pick, both, either}
use Rattle.basics.specs.Lists.{all_up_to}
use Rattle.dock.specs.Answers.{taken}
use Rattle.dock.specs.Closing.{closing}
use Rattle.dock.specs.Frame.{frame_of}
use Rattle.dock.specs.Read.{read_of}
use Rattle.dock.specs.Scan.{scan_of}
use Rattle.dock.specs.Swap.{swap_of, swapped}
use Rattle.keys.specs.Keys.{last_key}
use Rattle.maps.specs.Maps.{has_double}
use Rattle.queue.specs.Queues.{waiting, queue_of, last_replaced}
use Rattle.record.specs.Views.{keys, keys_of, with_repeat, contacts_of, with_queue}
use Rattle.record.specs.Parts.{with_handover, with_keys, with_map, with_contacts}
use Rattle.record.specs.Power.{power_on}
use Rattle.record.specs.declared.Dock.{Dock}
use Rattle.runs.specs.Machines.{Machine}
use Rattle.wrong_docks.specs.Docks.{swapping_by}

-- The contact history is cleared and the list of held keys is not: the limestone.
abbrev pub keeps_held_keys : Machine
keeps_held_keys = swapping_by (λ (d : Dock) (map : List ℕ). with_handover (with_keys (swap_of d map).dock (keys_of d)) d.rest.handover)

-- The held keys are forgotten, and no release is sent.
abbrev pub forgets_held_keys : Machine
forgets_held_keys =
    swapping_by (λ (d : Dock) (map : List ℕ).
    with_handover (with_keys (swap_of d map).dock (keys (replicate 144 0) d.rest.outgoing.queue 0 0)) d.rest.handover)

-- The same of the media keys alone.
abbrev pub forgets_media_keys : Machine
forgets_media_keys =
    swapping_by (λ (d : Dock) (map : List ℕ).
    let k = keys_of d in (swap_of (with_keys d (keys (take 105 k.held ++ replicate 39 0) k.queue k.repeating k.countdown)) map).dock)

-- The releases that do not fit at once are dropped,
abbrev pub drops_releases : Machine
drops_releases =
    swapping_by (λ (d : Dock) (map : List ℕ).
    let e = (swap_of d map).dock in with_handover (with_keys e (keys (replicate 144 0) e.rest.outgoing.queue 0 0)) false)

-- or leave the overrun mark,
abbrev pub swap_overruns : Machine
swap_overruns =
    swapping_by (λ (d : Dock) (map : List ℕ).
    let e = (swap_of d map).dock in
    pick e.rest.handover (with_handover (with_keys e (keys (replicate 144 0) (queue_of (last_replaced 0 (waiting e.rest.outgoing.queue))) 0 0)) false) e)

-- A handover goes on where the queue is empty.
abbrev pub lazily : Dock → Dock → Dock
lazily d e = pick d.rest.handover (pick (eqb e.rest.outgoing.queue.length 0) (closing (with_handover e true)) (with_handover e true)) e

-- or wait until the queue is empty.
abbrev pub hands_when_empty : Machine
hands_when_empty =
    record {
      wakes = power_on;
      scanned = λ (d : Dock) (scan : List ℕ). pick d.rest.handover (lazily d d) (scan_of d scan).dock;
      swapped = λ (d : Dock) (map : List ℕ). let e = (swap_of d map).dock in pick d.rest.handover (lazily d (swap_of (with_handover d false) map).dock) (pick (eqb d.rest.outgoing.queue.length 0) e (with_handover (with_keys e (with_repeat (keys_of d) 0 0)) true));
      framed = λ (d : Dock) (number : ℕ). lazily d (frame_of (with_handover d false) number).dock;
      read = λ (d : Dock). let t = read_of (with_handover d false) in taken t.given (lazily d t.dock);
    }

-- A handover that was open stays so while key bytes wait.
abbrev pub open_while_bytes_wait : Bool → Dock → Dock
open_while_bytes_wait was e = with_handover e (either e.rest.handover (both was (not (eqb e.rest.outgoing.queue.length 0))))

-- Deaf after a swap: the handover stays open as long as key bytes wait, though every key is released.
abbrev pub deaf_after_swap : Machine
deaf_after_swap =
    record {
      wakes = power_on;
      scanned = λ (d : Dock) (scan : List ℕ). open_while_bytes_wait d.rest.handover (scan_of d scan).dock;
      swapped = λ (d : Dock) (map : List ℕ). open_while_bytes_wait true (swap_of d map).dock;
      framed = λ (d : Dock) (number : ℕ). open_while_bytes_wait d.rest.handover (frame_of d number).dock;
      read = λ (d : Dock). let t = read_of d in taken t.given (open_while_bytes_wait d.rest.handover t.dock);
    }

-- The map of the panel before stays in force.
abbrev pub keeps_old_map : Machine
keeps_old_map = swapping_by (λ (d : Dock) (map : List ℕ). with_map (swap_of d map).dock d.map)

-- The contact history stays.
abbrev pub keeps_history : Machine
keeps_history = swapping_by (λ (d : Dock) (map : List ℕ). with_contacts (swap_of d map).dock (contacts_of d))

-- The repeat goes on.
abbrev pub keeps_repeating : Machine
keeps_repeating =
    swapping_by (λ (d : Dock) (map : List ℕ).
    let e = (swap_of d map).dock in with_keys e (with_repeat (keys_of e) d.rest.outgoing.repeating d.rest.outgoing.countdown))

-- What waits to be read is dropped.
abbrev pub swap_clears_queue : Machine
swap_clears_queue = swapping_by (λ (d : Dock) (map : List ℕ). (swap_of (with_keys d (with_queue (keys_of d) (queue_of []))) map).dock)

-- A second swap is passed over while a handover is open,
abbrev pub second_swap_ignored : Machine
second_swap_ignored = swapping_by (λ (d : Dock) (map : List ℕ). pick d.rest.handover d (swap_of d map).dock)

-- or ends the handover.
abbrev pub second_swap_ends_handover : Machine
second_swap_ends_handover =
    swapping_by (λ (d : Dock) (map : List ℕ).
    pick d.rest.handover (swap_of (with_handover (with_keys d (keys (replicate 144 0) d.rest.outgoing.queue 0 0)) false) map).dock (swap_of d map).dock)

-- A map with a media key is refused.
abbrev pub refuses_media_keys : Machine
refuses_media_keys = swapping_by (λ (d : Dock) (map : List ℕ). pick (all_up_to 104 map) (swap_of d map).dock d)

-- A map with a key twice is taken.
abbrev pub takes_doubles : Machine
takes_doubles =
    swapping_by (λ (d : Dock) (map : List ℕ).
    pick (both (eqb (length map) 144) (both (all_up_to last_key map) (has_double map))) (swapped d map) (swap_of d map).dock)
