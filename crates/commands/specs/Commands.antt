-- What a command does, and what it is answered with (docs/RULES.md, section 11). Assumes nothing.
use Rattle.std.specs.Prelude.{ℕ, suc, ◌-◌, true, false, List, [], ◌∷◌, eqb, replicate}
use Rattle.basics.specs.Choice.{pick, either, between}
use Rattle.hostbytes.specs.Named as host
use Rattle.keys.specs.Keys.{last_key}
use Rattle.queue.specs.Queues.{queue_of}
use Rattle.replies.specs.Replies.{replies_of}
use Rattle.record.specs.declared.Dock.{Dock}
use Rattle.record.specs.Views.{with_queue, keys_of, with_repeat}
use Rattle.record.specs.Parts.{with_replies, with_keys, with_mode, with_scanning, with_types, with_waiting}
use Rattle.record.specs.Power.{fresh_with, default_types, default_rate}
use Rattle.range.specs.Range.{takes_value}

-- The replies that a byte leaves waiting, instead of those before.
abbrev pub replying : List ℕ → Dock → Dock
replying bytes d = with_replies d (replies_of bytes)

-- No key byte waits; no key repeats.
abbrev pub cleared : Dock → Dock
cleared d = with_keys d (with_queue (keys_of d) (queue_of []))

abbrev pub unrepeated : Dock → Dock
unrepeated d = with_keys d (with_repeat (keys_of d) 0 0)

-- Both: nothing queued, nothing repeating.
abbrev pub quietened : Dock → Dock
quietened d = unrepeated (cleared d)

-- A part of the mode replaced.
abbrev pub with_set : ℕ → Dock → Dock
with_set set d = with_mode d (record { set = set; rate = d.rest.mode.rate; indicators = d.rest.mode.indicators })

abbrev pub with_rate : ℕ → Dock → Dock
with_rate rate d = with_mode d (record { set = d.rest.mode.set; rate = rate; indicators = d.rest.mode.indicators })

-- F0, until the set is given: nothing queued, nothing repeating, the default rate.
abbrev pub readied : Dock → Dock
readied d = with_rate default_rate (quietened d)

-- F4: nothing queued, nothing repeating, scanning on.
abbrev pub enabled : Dock → Dock
enabled d = with_scanning (quietened d) true

-- F6: nothing queued, nothing repeating, set 2, the default rate and types. F5: scanning off too.
abbrev pub defaulted : Dock → Dock
defaulted d = with_types (with_rate default_rate (with_set 2 (quietened d))) default_types

abbrev pub disabled : Dock → Dock
disabled d = with_scanning (defaulted d) false

-- F7 to FA: nothing queued, and every key has the same type.
abbrev pub typed : ℕ → Dock → Dock
typed type d = with_types (cleared d) (replicate (suc last_key) type)

-- FF: as at power-on, but for the map. The replies are replaced when the command is answered.
abbrev pub restarted : Dock → Dock
restarted d = fresh_with d.map d.rest.replies

-- What a command does at once. FB to FD clear, and give the type with their value.
unfoldable pub obeyed : ℕ → Dock → Dock
obeyed byte d =
    pick (eqb byte host.choose_set) (readied d)
    (pick (eqb byte host.enable) (enabled d)
    (pick (eqb byte host.disable) (disabled d)
    (pick (eqb byte host.defaults) (defaulted d)
    (pick (between host.all_types host.last_all_types byte) (typed (byte - host.all_types) d)
    (pick (between host.key_type host.last_key_type byte) (cleared d)
    (pick (eqb byte host.reset) (restarted d)
    d))))))

-- What a command is answered with.
unfoldable pub reply_to : ℕ → List ℕ
reply_to byte =
    pick (eqb byte host.echo) (host.echo ∷ [])
    (pick (either (eqb byte 0xef) (eqb byte 0xf1)) (host.resend ∷ [])
    (pick (eqb byte host.identify) (host.acknowledged ∷ host.identity ∷ host.identity_end ∷ [])
    (pick (eqb byte host.reset) (host.acknowledged ∷ host.awake ∷ [])
    (host.acknowledged ∷ []))))

-- A command: it is obeyed and answered, and waits if it takes a value. It ends the wait of another.
unfoldable pub commanded : ℕ → Dock → Dock
commanded byte d = replying (reply_to byte) (with_waiting (obeyed byte d) (pick (takes_value byte) byte 0))
