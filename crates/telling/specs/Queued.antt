-- What turned contacts and a handover put into the queue while it fits: whole sequences, one behind the other (docs/RULES.md,
-- sections 7 and 8). Assumes nothing.
use Rattle.std.specs.Prelude.{ℕ, zero, suc, not, List, [], ◌++◌, eqb, get_or}
use Rattle.basics.specs.Choice.{pick, either}
use Rattle.codes.specs.declared.Action.TheVariants.{Release}
use Rattle.contacts.specs.Scans.{contact}
use Rattle.keying.specs.Changes.{released, turns_to}
use Rattle.keying.specs.Handover.{can_leave}
use Rattle.record.specs.declared.Mode.{Mode}
use Rattle.record.specs.Views.{Keys}
use Rattle.record.specs.Held.{is_held}
use Rattle.sending.specs.Sending.{sends}
use Rattle.telling.specs.Overruns.{action_to}

-- The bytes of a key whose contact turned; where there is no key there are none.
unfoldable pub move_bytes : Keys → Mode → List ℕ → ℕ → ℕ → List ℕ
move_bytes k m types key closed = pick (eqb key 0) [] (sends k m (get_or types key 0) key (action_to closed))

-- The bytes of the key at a position, if its contact turned.
unfoldable pub turn_bytes_at : Mode → List ℕ → List ℕ → List ℕ → List ℕ → ℕ → Keys → List ℕ
turn_bytes_at m types map was is position k =
    pick (eqb (contact was position) (contact is position)) [] (move_bytes k m types (get_or map position 0) (contact is position))

-- The same at all positions below this one, each as those before it left the keys.
unfoldable pub turn_bytes : ℕ → Mode → List ℕ → List ℕ → List ℕ → List ℕ → Keys → List ℕ
turn_bytes zero m types map was is k = []
turn_bytes (suc position) m types map was is k =
    turn_bytes position m types map was is k ++ turn_bytes_at m types map was is position (turns_to position m types map was is k)

-- The releases of the held ones among n keys from `key` on, up to the first that does not fit.
unfoldable pub handed_bytes : ℕ → ℕ → Keys → Mode → List ℕ → List ℕ
handed_bytes zero key k m types = []
handed_bytes (suc n) key k m types =
    let next = pick (is_held k key) (released k m (get_or types key 0) key) k in
    let rest = handed_bytes n (suc key) next m types in
    pick (either (not (is_held k key)) (can_leave k m types key))
    (pick (is_held k key) (sends k m (get_or types key 0) key Release) [] ++ rest)
    []
