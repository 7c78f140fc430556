-- The record as definitions look at it: the contacts, and the keys as the terminal is told of them. Assumes nothing.
use Rattle.std.specs.Prelude.{ℕ, List}
use Rattle.contacts.specs.Counts.{Contacts, contacts}
use Rattle.queue.specs.declared.Queue.{Queue}
use Rattle.record.specs.declared.Outgoing.{Outgoing}
use Rattle.record.specs.declared.Dock.{Dock}

-- The flags of the held keys, the key bytes that wait, the key that repeats, and the scans until it does.
pub record Keys : Type 0 where
  pub held : List ℕ
  pub queue : Queue
  pub repeating : ℕ
  pub countdown : ℕ

-- The keys by their four parts, with another queue, and with another key repeating.
abbrev pub keys : List ℕ → Queue → ℕ → ℕ → Keys
keys held queue repeating countdown = record { held = held; queue = queue; repeating = repeating; countdown = countdown }

abbrev pub with_queue : Keys → Queue → Keys
with_queue k queue = keys k.held queue k.repeating k.countdown

abbrev pub with_repeat : Keys → ℕ → ℕ → Keys
with_repeat k key countdown = keys k.held k.queue key countdown

-- The keys of these flags and of what goes out, and what goes out of them.
abbrev pub keys_with : List ℕ → Outgoing → Keys
keys_with held o = keys held o.queue o.repeating o.countdown

abbrev pub outgoing_of : Keys → Outgoing
outgoing_of k = record { queue = k.queue; repeating = k.repeating; countdown = k.countdown }

-- The keys and the contacts of a record.
abbrev pub keys_of : Dock → Keys
keys_of d = keys_with d.held d.rest.outgoing

abbrev pub contacts_of : Dock → Contacts
contacts_of d = contacts d.closed d.counts
