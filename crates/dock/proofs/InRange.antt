-- A record in its range stays in its range, whatever is called, and refused or not. Assumes nothing.
use mathlib.Core.Path.{◌≡◌}
use mathlib.Core.Bool.{true}
use mathlib.Core.List.{List, [], ◌∷◌}
use Prim.Native.Nat.{ℕ}
use native.Mathlib.Omega.{arith}
use Rattle.basics.specs.Lists.{all_up_to}
use Rattle.basics.proofs.Cases.{picked}
use Rattle.keys.specs.Keys.{last_key}
use Rattle.contacts.specs.Counts.{unseen, counted_of}
use Rattle.commands.specs.Commands.{replying}
use Rattle.host.specs.Values.{took_byte}
use Rattle.commands.proofs.InRange.{InRange, replying_in_range}
use Rattle.host.proofs.InRange.{took_kept, took_in_range}
use Rattle.keying.specs.Handover.{handed_over}
use Rattle.keying.specs.Repeat.{ticked}
use Rattle.keying.proofs.Good.{turns_good, ticked_good, repeated_good, handed_good}
use Rattle.queue.specs.declared.Queue.{Queue}
use Rattle.replies.specs.declared.Replies.{Replies}
use Rattle.queue.proofs.Range.{popped_tidy}
use Rattle.replies.proofs.ReplyMeaning.{popped_replies_tidy}
use Rattle.record.specs.Views.{keys_of, contacts_of, with_queue, with_repeat}
use Rattle.record.specs.Parts.{with_keys, with_contacts, with_replies, with_map}
use Rattle.record.specs.declared.Dock.{Dock}
use Rattle.range.specs.Range.{good_rest, in_range}
use Rattle.range.proofs.Ranges.{alone_in_range, in_range_rest, good_keys_queue, good_keys_with_queue, good_keys_with_repeat, in_range_map, in_range_keys, in_range_mode, in_range_replies, in_range_with_map, in_range_with_contacts, in_range_with_keys, in_range_with_replies, in_range_with_handover, in_range_with_given}
use Rattle.dock.specs.Closing.{closing}
use Rattle.dock.specs.Scan.{counting, changed, repeating, heard_scan, scan_of}
use Rattle.dock.specs.Swap.{opened, remapped, swap_of}
use Rattle.dock.specs.Frame.{frame_of}
use Rattle.dock.specs.Read.{without_oldest, replies_behind, remembering, read_of}
use Rattle.dock.proofs.Calls.{scan_keeps, swap_keeps, frame_keeps, read_keeps}

-- The end of every accepted call.
closing_in_range : (d : Dock) → in_range d ≡ true → in_range (closing d) ≡ true
unfolding closing
closing_in_range d h =
    let left = handed_over (keys_of d) d.rest.mode d.types in
    let good = handed_good d.rest.mode last_key 1 (keys_of d) d.types (in_range_keys d h) in
    let kept = in_range_with_keys d h left.keys good in
    picked InRange d.rest.handover _ _ (in_range_with_handover (with_keys d left.keys) kept left.unfinished) h

-- A scan.
counting_in_range : (d : Dock) (scan : List ℕ) → in_range d ≡ true → in_range (counting d scan) ≡ true
unfolding counting
counting_in_range d scan h =
    let contacts = counted_of (contacts_of d) scan in
    let good =
    turns_good d.rest.mode (in_range_mode d h) d.types d.map (in_range_map d h) 144 d.closed contacts.closed
    (keys_of d) (in_range_keys d h) in
    in_range_with_keys (with_contacts d contacts) (in_range_with_contacts d h contacts) _ good

changed_in_range : (d : Dock) (scan : List ℕ) → in_range d ≡ true → in_range (changed d scan) ≡ true
unfolding changed
changed_in_range d scan h = grind (arith, counting_in_range)

repeating_in_range : (d : Dock) → in_range d ≡ true → in_range (repeating d) ≡ true
unfolding repeating
repeating_in_range d h = grind (arith, in_range_with_keys, repeated_good, in_range_keys)

ticking_in_range : (d : Dock) → in_range d ≡ true → in_range (with_keys d (ticked (keys_of d))) ≡ true
ticking_in_range d h = in_range_with_keys d h (ticked (keys_of d)) (ticked_good (keys_of d) (in_range_keys d h))

-- On the way, as the code has it: with the ticked keys, and after the scan's changes.
module _ (d : Dock) (h : in_range d ≡ true) (next : Dock) where
  pub ticked_leaves_range : next ≡ with_keys d (ticked (keys_of d)) → in_range next ≡ true
  ticked_leaves_range e = rw e (ticking_in_range d h)

  pub changed_leaves_range : (scan : List ℕ) → next ≡ changed d scan → in_range next ≡ true
  changed_leaves_range scan e = rw e (changed_in_range d scan h)

heard_in_range : (d : Dock) (scan : List ℕ) → in_range d ≡ true → in_range (heard_scan d scan) ≡ true
unfolding heard_scan
heard_in_range d scan h = grind (arith, repeating_in_range, changed_in_range, ticking_in_range)

pub scan_in_range : (d : Dock) (scan : List ℕ) → in_range d ≡ true → in_range (scan_of d scan).dock ≡ true
scan_in_range d scan h = scan_keeps InRange closing_in_range d h scan (heard_in_range d scan h)

-- A read.
reply_in_range : (d : Dock) → in_range d ≡ true → in_range (with_replies d (replies_behind d.rest.replies)) ≡ true
reply_in_range d h = grind (arith, in_range_with_replies, popped_replies_tidy, in_range_replies)

key_byte_in_range : (d : Dock) → in_range d ≡ true
    → in_range (with_keys d (with_queue (keys_of d) (without_oldest d.rest.outgoing.queue))) ≡ true
key_byte_in_range d h =
    let good = in_range_keys d h in
    let tidied = popped_tidy d.rest.outgoing.queue (good_keys_queue (keys_of d) good) in
    in_range_with_keys d h _ (good_keys_with_queue (keys_of d) good (without_oldest d.rest.outgoing.queue) tidied)

remembering_in_range : (d : Dock) → in_range d ≡ true → (byte : ℕ) → in_range (remembering d byte) ≡ true
unfolding remembering
remembering_in_range d h byte = in_range_with_given d h _

pub read_in_range : (d : Dock) → in_range d ≡ true → in_range (read_of d).dock ≡ true
read_in_range d h =
    read_keeps InRange closing_in_range d h (λ byte. remembering_in_range _ (key_byte_in_range d h) byte)
    (λ byte. remembering_in_range _ (reply_in_range d h) byte)

-- The same as the code has it, whatever the map is.
module _ (d : Dock) (h : good_rest d.rest ≡ true) where
  bare : in_range (with_map d []) ≡ true
  bare = alone_in_range d.rest h _ _ _ _

  pub reply_leaves_range : (left : Replies) → left ≡ replies_behind d.rest.replies → good_rest (with_replies d left).rest ≡ true
  reply_leaves_range left e = rw e (in_range_rest _ (reply_in_range (with_map d []) bare))

  pub key_byte_leaves_range : (left : Queue) → left ≡ without_oldest d.rest.outgoing.queue
      → good_rest (with_keys d (with_queue (keys_of d) left)).rest ≡ true
  key_byte_leaves_range left e = rw e (in_range_rest _ (key_byte_in_range (with_map d []) bare))

-- A swap.
opened_in_range : (d : Dock) (map : List ℕ) → in_range d ≡ true → all_up_to last_key map ≡ true → in_range (opened d map) ≡ true
unfolding opened
opened_in_range d map h g =
    let keys = good_keys_with_repeat (keys_of d) (in_range_keys d h) 0 0 (omega arith) (omega arith) in
    let bare = with_contacts (with_map d map) unseen in
    let kept = in_range_with_contacts (with_map d map) (in_range_with_map d h map g) unseen in
    in_range_with_handover (with_keys bare (with_repeat (keys_of d) 0 0)) (in_range_with_keys bare kept (with_repeat (keys_of d) 0 0) keys) true

remapped_in_range : (d : Dock) (map : List ℕ) → in_range d ≡ true → all_up_to last_key map ≡ true → in_range (remapped d map) ≡ true
unfolding remapped
remapped_in_range d map h g = grind (arith, in_range_with_map, opened_in_range)

pub swap_leaves_range : (d : Dock) (map : List ℕ) → in_range d ≡ true → all_up_to last_key map ≡ true → (next : Dock) → next ≡ remapped d map
    → in_range next ≡ true
swap_leaves_range d map h g next e = rw e (remapped_in_range d map h g)

pub swap_in_range : (d : Dock) (map : List ℕ) → in_range d ≡ true → in_range (swap_of d map).dock ≡ true
swap_in_range d map h = swap_keeps InRange closing_in_range d h map (λ long good. remapped_in_range d map h good)

-- A frame from the host, whatever the map is.
module _ (d : Dock) (h : good_rest d.rest ≡ true) (next : Dock) where
  pub broken_leaves_range : next ≡ replying (0xfe ∷ []) d → good_rest next.rest ≡ true
  broken_leaves_range e = rw e (in_range_rest _ (replying_in_range (with_map d []) (alone_in_range d.rest h _ _ _ _) (0xfe ∷ []) (omega arith)))

  pub byte_leaves_range : (byte : ℕ) → next ≡ took_byte byte d → good_rest next.rest ≡ true
  byte_leaves_range byte e = rw e (took_kept d h byte).rest

pub frame_in_range : (d : Dock) (number : ℕ) → in_range d ≡ true → in_range (frame_of d number).dock ≡ true
frame_in_range d number h =
    frame_keeps InRange closing_in_range d h number (λ byte. took_in_range d h byte) (replying_in_range d h (0xfe ∷ []) (omega arith))
