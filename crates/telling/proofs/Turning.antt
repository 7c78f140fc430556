-- One contact at a time, where the queue does not overrun: nothing happens, or a key is pressed or released whose bytes have room.
-- What is shown of these three is shown of every turned contact. Assumes nothing.
use mathlib.Core.Path.{◌≡◌}
use mathlib.Core.Bool.{true, false}
use mathlib.Core.List.{List, []}
use Prim.Native.Nat.{ℕ, ◌≤◌}
use native.Mathlib.Omega.{arith}
use lib.ListN.{get_or, length}
use Rattle.codes.specs.declared.Action.{Action}
use Rattle.codes.specs.declared.Action.TheVariants.{Press, Release}
use Rattle.keying.specs.Changes.{pressed, released, moved, turned, turned_at}
use Rattle.queue.specs.Queues.{waiting, has_room}
use Rattle.record.specs.declared.Mode.{Mode}
use Rattle.record.specs.Views.{Keys}
use Rattle.sending.specs.Sending.{sends}
use Rattle.telling.specs.Overruns.{lacks_room, overruns_at}
use Rattle.telling.specs.Queued.{move_bytes, turn_bytes_at}

-- The bytes of an action have room.
abbrev pub Fits : Keys → Mode → ℕ → ℕ → Action → Type 0
Fits k m type key action = has_room (waiting k.queue) (length (sends k m type key action)) ≡ true

module _ (P : Keys → List ℕ → Type 0) (m : Mode) (types : List ℕ) (k : Keys) (still : P k []) (key : ℕ) where
  abbrev type : ℕ
  type = get_or types key 0

  module _ (down : 1 ≤ key → Fits k m type key Press → P (pressed k m type key) (sends k m type key Press))
      (up : 1 ≤ key → Fits k m type key Release → P (released k m type key) (sends k m type key Release)) where
    each_move : (closed : ℕ) → lacks_room k m types key closed ≡ false → P (moved k m types key closed) (move_bytes k m types key closed)
    unfolding moved move_bytes lacks_room
    each_move closed fits = grind arith

    pub each_turn : (map was is : List ℕ) (position : ℕ) → get_or map position 0 ≡ key → overruns_at m types map was is position k ≡ false
        → P (turned_at m types map was is position k) (turn_bytes_at m types map was is position k)
    unfolding turned turn_bytes_at overruns_at
    each_turn map was is position here fits = grind (arith, each_move)
