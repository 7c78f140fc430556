-- The handover of a panel's held keys (docs/RULES.md, section 8). Assumes nothing.
use Rattle.std.specs.Prelude.{ℕ, zero, suc, Bool, true, false, not, List, get_or, length}
use Rattle.basics.specs.Choice.{pick, either}
use Rattle.keys.specs.Keys.{last_key}
use Rattle.codes.specs.declared.Action.TheVariants.{Release}
use Rattle.queue.specs.Queues.{waiting, has_room}
use Rattle.record.specs.declared.Mode.{Mode}
use Rattle.record.specs.declared.Dock.{Dock}
use Rattle.record.specs.Views.{Keys}
use Rattle.record.specs.Parts.{with_keys, with_handover}
use Rattle.record.specs.Held.{is_held}
use Rattle.sending.specs.Sending.{sends}
use Rattle.keying.specs.Changes.{released}

-- The keys after a handover went on, and whether it is still open.
pub record Handed : Type 0 where
  pub keys : Keys
  pub unfinished : Bool

-- The release of a key would fit into the queue.
abbrev pub can_leave : Keys → Mode → List ℕ → ℕ → Bool
can_leave k m types key = has_room (waiting k.queue) (length (sends k m (get_or types key 0) key Release))

-- n keys from `key` on: each that is held is released as soon as its release fits, and one that has to wait holds up all behind it.
unfoldable pub handed_from : ℕ → ℕ → Keys → Mode → List ℕ → Handed
handed_from zero key k m types = record { keys = k; unfinished = false }
handed_from (suc n) key k m types =
    let next = pick (is_held k key) (released k m (get_or types key 0) key) k in
    let rest = handed_from n (suc key) next m types in
    pick (either (not (is_held k key)) (can_leave k m types key)) rest (record { keys = k; unfinished = true })

-- All keys, the lowest first.
abbrev pub handed_over : Keys → Mode → List ℕ → Handed
handed_over k m types = handed_from last_key 1 k m types

-- The record with the keys that were handed over, and the handover as far as it got.
abbrev pub with_handed : Dock → Handed → Dock
with_handed d h = with_handover (with_keys d h.keys) h.unfinished
