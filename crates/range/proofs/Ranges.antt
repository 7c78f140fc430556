-- What a record in its range gives, part by part, and back; and which new parts leave it in its range. Assumes nothing.
use mathlib.Core.Path.{◌≡◌}
use mathlib.Core.Bool.{Bool, true}
use mathlib.Core.List.{List, []}
use Prim.Native.Nat.{ℕ, ◌≤◌}
use borrow.Author.Tests.{leb-true, le-leb}
use Rattle.basics.specs.Lists.{all_up_to}
use Rattle.basics.proofs.Flags.{left_of_both, right_of_both}
use Rattle.keys.specs.Keys.{last_key}
use Rattle.contacts.specs.Counts.{Contacts}
use Rattle.queue.specs.declared.Queue.{Queue}
use Rattle.replies.specs.declared.Replies.{Replies}
use Rattle.queue.specs.Queues.{tidy}
use Rattle.replies.specs.Replies.{tidy_replies}
use Rattle.record.specs.declared.Mode.{Mode}
use Rattle.record.specs.declared.Outgoing.{Outgoing}
use Rattle.record.specs.declared.Rest.{Rest}
use Rattle.record.specs.Views.{Keys, with_queue, with_repeat, keys_of}
use Rattle.record.specs.Parts.{dock_with, with_map, with_contacts, with_keys, with_types, with_mode, with_replies, with_waiting, with_scanning, with_handover, with_given}
use Rattle.record.specs.declared.Dock.{Dock}
use Rattle.range.specs.Range.{good_mode, good_outgoing, good_keys, good_waiting, good_rest, in_range}

-- The mode.
module _ (m : Mode) (h : good_mode m ≡ true) where
  pub good_mode_set : record { low : 1 ≤ m.set; high : m.set ≤ 3 }
  unfolding good_mode
  good_mode_set = record { low = leb-true 1 m.set (search (left_of_both, right_of_both)); high = leb-true m.set 3 (search (left_of_both, right_of_both)) }

  pub good_mode_rate : m.rate ≤ 127
  unfolding good_mode
  good_mode_rate = leb-true m.rate 127 (search (left_of_both, right_of_both))

  pub good_mode_indicators : m.indicators ≤ 7
  unfolding good_mode
  good_mode_indicators = leb-true m.indicators 7 (search (left_of_both, right_of_both))

pub good_mode_lem : (m : Mode) → 1 ≤ m.set → m.set ≤ 3 → m.rate ≤ 127 → m.indicators ≤ 7 → good_mode m ≡ true
unfolding good_mode
good_mode_lem m a b c e = rw (le-leb 1 m.set a, le-leb m.set 3 b, le-leb m.rate 127 c) (le-leb m.indicators 7 e)

-- The keys.
module _ (k : Keys) (h : good_keys k ≡ true) where
  pub good_keys_queue : tidy k.queue ≡ true
  unfolding good_outgoing
  good_keys_queue = search left_of_both

  pub good_keys_repeating : k.repeating ≤ last_key
  unfolding good_outgoing
  good_keys_repeating = leb-true k.repeating last_key (search (left_of_both, right_of_both))

  pub good_keys_countdown : k.countdown ≤ 240
  unfolding good_outgoing
  good_keys_countdown = leb-true k.countdown 240 (search (left_of_both, right_of_both))

  -- With another queue, and with another key repeating.
  pub good_keys_with_queue : (queue : Queue) → tidy queue ≡ true → good_keys (with_queue k queue) ≡ true
  unfolding good_outgoing
  good_keys_with_queue queue g = rw g (rw good_keys_queue at h)

  pub good_keys_with_repeat : (key countdown : ℕ) → key ≤ last_key → countdown ≤ 240 → good_keys (with_repeat k key countdown) ≡ true
  unfolding good_outgoing
  good_keys_with_repeat key countdown g f = rw (good_keys_queue, le-leb key last_key g) (le-leb countdown 240 f)

pub good_outgoing_lem : (o : Outgoing) → tidy o.queue ≡ true → o.repeating ≤ last_key → o.countdown ≤ 240 → good_outgoing o ≡ true
unfolding good_outgoing
good_outgoing_lem o b c e = rw (b, le-leb o.repeating last_key c) (le-leb o.countdown 240 e)

-- All that is passed by value.
module _ (r : Rest) (h : good_rest r ≡ true) where
  pub good_rest_outgoing : good_outgoing r.outgoing ≡ true
  unfolding good_rest
  good_rest_outgoing = search left_of_both

  pub good_rest_mode : good_mode r.mode ≡ true
  unfolding good_rest
  good_rest_mode = search (left_of_both, right_of_both)

  pub good_rest_replies : tidy_replies r.replies ≡ true
  unfolding good_rest
  good_rest_replies = search (left_of_both, right_of_both)

  pub good_rest_waiting : good_waiting r.waiting ≡ true
  unfolding good_rest
  good_rest_waiting = search (left_of_both, right_of_both)

  -- With it a record of an empty map is in its range.
  pub alone_in_range : (closed counts held types : List ℕ) → in_range (dock_with [] closed counts held types r) ≡ true
  unfolding in_range all_up_to
  alone_in_range closed counts held types = h

-- The record.
pub in_range_lem : (d : Dock) → all_up_to last_key d.map ≡ true → good_keys (keys_of d) ≡ true → good_mode d.rest.mode ≡ true → tidy_replies d.rest.replies ≡ true
    → good_waiting d.rest.waiting ≡ true → in_range d ≡ true
unfolding in_range good_rest
in_range_lem d map keys mode replies waiting = rw (map, keys, mode, replies) waiting

module _ (d : Dock) (h : in_range d ≡ true) where
  pub in_range_map : all_up_to last_key d.map ≡ true
  unfolding in_range
  in_range_map = search left_of_both

  pub in_range_rest : good_rest d.rest ≡ true
  unfolding in_range
  in_range_rest = search right_of_both

  pub in_range_keys : good_keys (keys_of d) ≡ true
  in_range_keys = good_rest_outgoing d.rest in_range_rest

  pub in_range_mode : good_mode d.rest.mode ≡ true
  in_range_mode = good_rest_mode d.rest in_range_rest

  pub in_range_replies : tidy_replies d.rest.replies ≡ true
  in_range_replies = good_rest_replies d.rest in_range_rest

  pub in_range_waiting : good_waiting d.rest.waiting ≡ true
  in_range_waiting = good_rest_waiting d.rest in_range_rest

  -- With another part in its range it stays in range; five parts take any value.
  pub in_range_with_map : (map : List ℕ) → all_up_to last_key map ≡ true → in_range (with_map d map) ≡ true
  unfolding in_range good_rest
  in_range_with_map map g = rw g (rw in_range_map at h)

  pub in_range_with_contacts : (contacts : Contacts) → in_range (with_contacts d contacts) ≡ true
  unfolding in_range good_rest
  in_range_with_contacts contacts = h

  pub in_range_with_keys : (keys : Keys) → good_keys keys ≡ true → in_range (with_keys d keys) ≡ true
  unfolding in_range good_rest
  in_range_with_keys keys g = rw g (rw in_range_keys at h)

  pub in_range_with_types : (types : List ℕ) → in_range (with_types d types) ≡ true
  unfolding in_range good_rest
  in_range_with_types types = h

  pub in_range_with_mode : (mode : Mode) → good_mode mode ≡ true → in_range (with_mode d mode) ≡ true
  unfolding in_range good_rest
  in_range_with_mode mode g = rw g (rw in_range_mode at h)

  pub in_range_with_replies : (replies : Replies) → tidy_replies replies ≡ true → in_range (with_replies d replies) ≡ true
  unfolding in_range good_rest
  in_range_with_replies replies g = rw g (rw in_range_replies at h)

  pub in_range_with_waiting : (waiting : ℕ) → good_waiting waiting ≡ true → in_range (with_waiting d waiting) ≡ true
  unfolding in_range good_rest
  in_range_with_waiting waiting g = rw g (rw in_range_waiting at h)

  pub in_range_with_scanning : (scanning : Bool) → in_range (with_scanning d scanning) ≡ true
  unfolding in_range good_rest
  in_range_with_scanning scanning = h

  pub in_range_with_handover : (handover : Bool) → in_range (with_handover d handover) ≡ true
  unfolding in_range good_rest
  in_range_with_handover handover = h

  pub in_range_with_given : (given : ℕ) → in_range (with_given d given) ≡ true
  unfolding in_range good_rest
  in_range_with_given given = h
