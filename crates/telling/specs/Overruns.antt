-- When the queue overruns (docs/RULES.md, section 7): a contact turned, and the bytes of its key do not fit. Assumes nothing.
use Rattle.std.specs.Prelude.{ℕ, zero, suc, Bool, false, not, List, eqb, get_or, length}
use Rattle.basics.specs.Choice.{pick, both, either}
use Rattle.codes.specs.declared.Action.{Action}
use Rattle.codes.specs.declared.Action.TheVariants.{Press, Release}
use Rattle.contacts.specs.Scans.{contact}
use Rattle.keying.specs.Changes.{turns_to}
use Rattle.queue.specs.Queues.{waiting, has_room}
use Rattle.record.specs.declared.Mode.{Mode}
use Rattle.record.specs.Views.{Keys}
use Rattle.sending.specs.Sending.{sends}

-- What a key does whose contact turned: to closed (1) it is pressed, to open (0) released.
abbrev pub action_to : ℕ → Action
action_to closed = pick (eqb closed 1) Press Release

-- There is no room for the bytes of a key that turns.
unfoldable pub lacks_room : Keys → Mode → List ℕ → ℕ → ℕ → Bool
lacks_room k m types key closed =
    both (not (eqb key 0))
    (not (has_room (waiting k.queue) (length (sends k m (get_or types key 0) key (action_to closed)))))

-- The contact at a position turned, and there is no room for the bytes of its key.
unfoldable pub overruns_at : Mode → List ℕ → List ℕ → List ℕ → List ℕ → ℕ → Keys → Bool
overruns_at m types map was is position k =
    both (not (eqb (contact was position) (contact is position))) (lacks_room k m types (get_or map position 0) (contact is position))

-- The same at one of the positions below this one, each as those before it left the keys.
unfoldable pub overruns_to : ℕ → Mode → List ℕ → List ℕ → List ℕ → List ℕ → Keys → Bool
overruns_to zero m types map was is k = false
overruns_to (suc position) m types map was is k =
    either (overruns_to position m types map was is k) (overruns_at m types map was is position (turns_to position m types map was is k))
