-- A key goes down or comes up (docs/RULES.md, sections 5 and 6). Assumes nothing.
use Rattle.std.specs.Prelude.{ℕ, zero, suc, ◌+◌, ◌*◌, List, eqb, get_or}
use Rattle.basics.specs.Choice.{pick}
use Rattle.codes.specs.declared.Action.TheVariants.{Press, Release}
use Rattle.codes.specs.Codes.{may_repeat}
use Rattle.contacts.specs.Scans.{contact_in, contact}
use Rattle.queue.specs.declared.Queue.{Queue}
use Rattle.record.specs.declared.Mode.{Mode}
use Rattle.record.specs.Views.{keys, Keys}
use Rattle.record.specs.Held.{key_down, key_up}
use Rattle.sending.specs.Sending.{sends, queued_of}
use Rattle.keying.specs.Repeat.{delay_of}

-- A key is pressed: it is held, its bytes are queued, and it is the one that repeats, if it may; else none does.
unfoldable pub pressed : Keys → Mode → ℕ → ℕ → Keys
pressed k m type key =
    let repeats = may_repeat m.set key type in
    keys (key_down k.held key) (queued_of k.queue m (sends k m type key Press)) (pick repeats key 0) (pick repeats (delay_of m.rate) 0)

-- A key is let go, and this is the queue then: it is not held any more, and if it was the one that repeats, none does.
abbrev pub let_go : Keys → ℕ → Queue → Keys
let_go k key queue =
    let stops = eqb k.repeating key in
    keys (key_up k.held key) queue (pick stops 0 k.repeating) (pick stops 0 k.countdown)

-- A key is released, and these bytes say so: they are queued.
unfoldable pub released_with : Keys → Mode → ℕ → List ℕ → Keys
released_with k m key bytes = let_go k key (queued_of k.queue m bytes)

-- A key is released with the bytes that its release sends as things stand.
unfoldable pub released : Keys → Mode → ℕ → ℕ → Keys
released k m type key = released_with k m key (sends k m type key Release)

-- The contact of a key turned: to closed (1) or to open (0). Where there is no key nothing happens.
unfoldable pub moved : Keys → Mode → List ℕ → ℕ → ℕ → Keys
moved k m types key closed =
    pick (eqb key 0) k (pick (eqb closed 1) (pressed k m (get_or types key 0) key) (released k m (get_or types key 0) key))

-- The contact at a position, if it turned: it was `before` and is `after`, each 1 closed or 0 open.
unfoldable pub turned : Mode → List ℕ → List ℕ → ℕ → ℕ → ℕ → Keys → Keys
turned m types map position before after k = pick (eqb before after) k (moved k m types (get_or map position 0) after)

-- The same, out of two scans.
abbrev pub turned_at : Mode → List ℕ → List ℕ → List ℕ → List ℕ → ℕ → Keys → Keys
turned_at m types map was is position k = turned m types map position (contact was position) (contact is position) k

-- The contacts below a position that turned from `was` to `is`, one after the other.
unfoldable pub turns_to : ℕ → Mode → List ℕ → List ℕ → List ℕ → List ℕ → Keys → Keys
turns_to zero m types map was is k = k
turns_to (suc position) m types map was is k = turned_at m types map was is position (turns_to position m types map was is k)

-- The same in the rows below a row of one column, whose byte was `was` and is `is`.
unfoldable pub rows_to : ℕ → Mode → List ℕ → List ℕ → ℕ → ℕ → ℕ → Keys → Keys
rows_to zero m types map column was is k = k
rows_to (suc row) m types map column was is k =
    turned m types map (8 * column + row) (contact_in was row) (contact_in is row) (rows_to row m types map column was is k)
