-- What a key sends now, and how it is queued (docs/RULES.md, sections 3 and 7). Assumes nothing.
use Rattle.std.specs.Prelude.{ℕ, ◌/◌, ◌%◌, Bool, List, eqb}
use Rattle.basics.specs.Choice.{pick}
use Rattle.codes.specs.declared.Action.{Action}
use Rattle.codes.specs.Codes.{encode}
use Rattle.keys.specs.Keys.{mark_of}
use Rattle.queue.specs.declared.Queue.{Queue}
use Rattle.queue.specs.Queues.{waiting, queue_of, pushed_to}
use Rattle.record.specs.declared.Mode.{Mode}
use Rattle.record.specs.Views.{Keys}
use Rattle.record.specs.Held.{modifiers_of}

-- Num Lock is an indicator.
abbrev pub num_lock : ℕ → Bool
num_lock indicators = eqb (indicators / 2 % 2) 1

-- The bytes that an action of a key sends as things stand, by the flags of the held keys.
abbrev pub sends_with : List ℕ → Mode → ℕ → ℕ → Action → List ℕ
sends_with held m type key action = encode m.set key action type (modifiers_of held) (num_lock m.indicators)

-- The same, by the keys of the record.
unfoldable pub sends : Keys → Mode → ℕ → ℕ → Action → List ℕ
sends k m type key action = sends_with k.held m type key action

-- The queue with bytes behind it, or with the set's overrun mark if they do not fit.
unfoldable pub queued_of : Queue → Mode → List ℕ → Queue
queued_of q m bytes = queue_of (pushed_to (mark_of m.set) (waiting q) bytes)

-- The bytes that a release has at least, unless it sends nothing: in set 1 the code alone, else F0 before it.
abbrev pub shortest_release : ℕ → ℕ
shortest_release set = pick (eqb set 1) 1 2
