-- The ranges of the record (docs/RECORD.md). Assumes nothing.
use Rattle.std.specs.Prelude.{ℕ, Bool, leb, eqb}
use Rattle.basics.specs.Choice.{both, either, between}
use Rattle.basics.specs.Lists.{all_up_to}
use Rattle.hostbytes.specs.Named as host
use Rattle.keys.specs.Keys.{last_key}
use Rattle.queue.specs.Queues.{tidy}
use Rattle.replies.specs.Replies.{tidy_replies}
use Rattle.record.specs.declared.Mode.{Mode}
use Rattle.record.specs.declared.Outgoing.{Outgoing}
use Rattle.record.specs.declared.Rest.{Rest}
use Rattle.record.specs.declared.Dock.{Dock}
use Rattle.record.specs.Views.{Keys, outgoing_of}

-- A set, a rate and indicators that the host can choose.
unfoldable pub good_mode : Mode → Bool
good_mode m = both (between 1 3 m.set) (both (leb m.rate 127) (leb m.indicators 7))

-- A queue, a key or none, and a countdown that no interval outlasts.
unfoldable pub good_outgoing : Outgoing → Bool
good_outgoing o = both (tidy o.queue) (both (leb o.repeating last_key) (leb o.countdown 240))

-- The same of the keys: a flag that is not 0 says that its key is held, so flags have no range.
abbrev pub good_keys : Keys → Bool
good_keys k = good_outgoing (outgoing_of k)

-- A command that takes a value.
abbrev pub takes_value : ℕ → Bool
takes_value byte =
    either (eqb byte host.indicators) (either (eqb byte host.choose_set) (either (eqb byte host.rate) (between host.key_type host.last_key_type byte)))

-- No command waits for its value, or one that takes a value.
abbrev pub good_waiting : ℕ → Bool
good_waiting byte = either (eqb byte 0) (takes_value byte)

-- All that is passed by value is in its range; the byte given may be anything.
unfoldable pub good_rest : Rest → Bool
good_rest r = both (good_outgoing r.outgoing) (both (good_mode r.mode) (both (tidy_replies r.replies) (good_waiting r.waiting)))

-- Every part is in its range; contacts, flags of held keys and types may be anything.
unfoldable pub in_range : Dock → Bool
in_range d = both (all_up_to last_key d.map) (good_rest d.rest)
