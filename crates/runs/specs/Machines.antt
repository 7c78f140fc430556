-- Any dock, as its calls: of these demand 3 can be said, of ours and of wrong ones (docs/RULES.md, section 13).
-- Assumes nothing. An edit of must-fail/ puts what it imports in the place of these two lines.
use Rattle.std.specs.Prelude.{ℕ, zero, suc, ◌+◌, Bool, true, false, not, List, eqb, ltb, length, get_or, Option, None, Result, Ok}
use Rattle.basics.specs.Choice.{pick, both}
use Rattle.codes.specs.declared.Action.TheVariants.{Release}
use Rattle.dock.specs.declared.Given.{Given}
use Rattle.dock.specs.declared.Refusal.{Refusal}
use Rattle.dock.specs.Answers.{Taken}
use Rattle.dock.specs.Scan.{scan_of}
use Rattle.dock.specs.Swap.{swap_of}
use Rattle.dock.specs.Frame.{frame_of}
use Rattle.dock.specs.Read.{read_of}
use Rattle.keys.specs.Keys.{last_key}
use Rattle.queue.specs.Queues.{waiting}
use Rattle.record.specs.declared.Mode.{Mode}
use Rattle.record.specs.Views.{Keys, keys_of}
use Rattle.record.specs.declared.Dock.{Dock}
use Rattle.record.specs.Power.{power_on}
use Rattle.sending.specs.Sending.{sends}

-- The record at power-on, what a scan, a swap and a frame make of a record, and what a read gives and leaves.
pub record Machine : Type 0 where
  pub wakes : Dock
  pub scanned : Dock → List ℕ → Dock
  pub swapped : Dock → List ℕ → Dock
  pub framed : Dock → ℕ → Dock
  pub read : Dock → Taken

-- Our dock: each call is the very one that its function promises.
abbrev pub ours : Machine
ours =
    record {
      wakes = power_on;
      scanned = λ (d : Dock) (scan : List ℕ). (scan_of d scan).dock;
      swapped = λ (d : Dock) (map : List ℕ). (swap_of d map).dock;
      framed = λ (d : Dock) (number : ℕ). (frame_of d number).dock;
      read = read_of;
    }

-- A read gave nothing.
abbrev pub is_nothing : Result (Option Given) Refusal → Bool
is_nothing (Ok None) = true
is_nothing other = false

-- Nothing waits: a read would give nothing.
abbrev pub nothing_waits : Machine → Dock → Bool
nothing_waits m d = is_nothing (m.read d).given

-- The lowest of n keys from `key` on that is held; 0 for none.
unfoldable pub lowest_from : ℕ → ℕ → List ℕ → ℕ
lowest_from zero key held = 0
lowest_from (suc n) key held = pick (eqb (get_or held key 0) 0) (lowest_from n (suc key) held) key

-- The release of a key, if it is one, does not fit behind what waits: there are 16 places.
unfoldable pub finds_no_room : Keys → Mode → List ℕ → ℕ → Bool
finds_no_room k m types key =
    both (not (eqb key 0)) (ltb 16 (length (waiting k.queue) + length (sends k m (get_or types key 0) key Release)))

-- After a swap a key is left: the lowest one held finds no room for its release.
unfoldable pub key_left : Dock → Bool
key_left d = finds_no_room (keys_of d) d.rest.mode d.types (lowest_from last_key 1 d.held)
