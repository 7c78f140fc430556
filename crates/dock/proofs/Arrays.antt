-- Every array of the record keeps its size, whatever is called. Assumes nothing.
use mathlib.Core.Path.{◌≡◌, refl, ◌∙◌}
use mathlib.Core.Bool.{true}
use mathlib.Core.List.{List, [], ◌∷◌, map}
use Prim.Native.Nat.{ℕ, suc}
use native.Mathlib.Omega.{arith}
use lib.ListN.{length, length-take, length-set}
use Rattle.basics.specs.Lists.{all_up_to}
use Rattle.basics.proofs.Cases.{picked}
use Rattle.commands.specs.Commands.{cleared, reply_to, obeyed, commanded}
use Rattle.commands.proofs.InRange.{reply_short}
use Rattle.commands.proofs.Ladder.{by_command}
use Rattle.contacts.proofs.Pointwise.{closed_length, counts_length}
use Rattle.host.specs.Values.{took_byte}
use Rattle.host.proofs.Ladder.{by_value, by_byte}
use Rattle.keying.proofs.Places.{Places, turns_places, repeated_places, handed_places}
use Rattle.keying.specs.Repeat.{ticked}
use Rattle.keys.specs.Keys.{last_key, rows}
use Rattle.phantom.specs.Phantom.{is_phantom}
use Rattle.queue.specs.declared.Queue.{Queue}
use Rattle.queue.specs.Queues.{waiting}
use Rattle.queue.proofs.Meaning.{places-queue_of}
use Rattle.replies.specs.declared.Replies.{Replies}
use Rattle.replies.specs.Replies.{waiting_replies, replies_of}
use Rattle.replies.proofs.ReplyMeaning.{places-replies_of}
use Rattle.record.specs.declared.Dock.{Dock}
use Rattle.record.specs.Views.{keys_of, contacts_of}
use Rattle.record.specs.Parts.{with_keys}
use Rattle.record.specs.Power.{count_up, plain_map, default_types, fresh_with, power_on}
use Rattle.record.specs.Sized.{Sized, IsSized}
use Rattle.range.specs.Range.{in_range}
use Rattle.range.proofs.Ranges.{in_range_map}
use Rattle.dock.specs.Closing.{closing}
use Rattle.dock.specs.Scan.{counting, changed, quiet, repeating, heard_scan, scan_of}
use Rattle.dock.specs.Swap.{opened, remapped, swap_of}
use Rattle.dock.specs.Frame.{frame_of}
use Rattle.dock.specs.Read.{without_oldest, replies_behind, remembering, read_of}
use Rattle.dock.proofs.Calls.{scan_keeps, swap_keeps, frame_keeps, read_keeps}

-- One array replaced by another of its size, or two.
module _ {m c n h t q r : List ℕ} (s : Sized m c n h t q r) where
  other_keys : {h' q' : List ℕ} → length h' ≡ 144 → length q' ≡ 16 → Sized m c n h' t q' r
  other_keys held queue = grind arith

  other_types : {t' : List ℕ} → length t' ≡ suc last_key → Sized m c n h t' q r
  other_types types = grind arith

  other_replies : {r' : List ℕ} → length r' ≡ 3 → Sized m c n h t q r'
  other_replies replies = grind arith

  other_panel_lem : {m' c' n' : List ℕ} → length m' ≡ 144 → length c' ≡ 18 → length n' ≡ 144 → Sized m' c' n' h t q r
  other_panel_lem map closed counts = grind arith

places_of : (d : Dock) → IsSized d → Places (keys_of d)
places_of d s = grind arith

closing_sized : (d : Dock) → IsSized d → IsSized (closing d)
unfolding closing
closing_sized d s =
    let left = handed_places d.rest.mode last_key 1 (keys_of d) d.types (places_of d s) in
    picked IsSized d.rest.handover _ _ (other_keys s left.flags left.bytes) s

-- A scan.
changed_sized : (d : Dock) (scan : List ℕ) → all_up_to last_key d.map ≡ true → IsSized d → IsSized (changed d scan)
unfolding changed counting
changed_sized d scan entries s =
    let turned = turns_places d.rest.mode d.types d.map entries 144 d.closed _ (keys_of d) (places_of d s) in
    picked IsSized (is_phantom scan) _ _ s
    (other_keys
    (other_panel_lem s s.map (closed_length (contacts_of d) scan ∙ s.closed) (counts_length (contacts_of d) scan ∙ s.counts))
    turned.flags turned.bytes)

heard_sized : (d : Dock) (scan : List ℕ) → all_up_to last_key d.map ≡ true → IsSized d → IsSized (heard_scan d scan)
unfolding heard_scan repeating
heard_sized d scan entries s =
    let next = changed (with_keys d (ticked (keys_of d))) scan in
    let after = changed_sized (with_keys d (ticked (keys_of d))) scan entries s in
    let sent = repeated_places next.rest.mode (keys_of next) next.types (quiet next) (places_of next after) in
    other_keys after sent.flags sent.bytes

pub scan_sized : (d : Dock) (scan : List ℕ) → in_range d ≡ true → IsSized d → IsSized (scan_of d scan).dock
scan_sized d scan h s = scan_keeps IsSized closing_sized d s scan (heard_sized d scan (in_range_map d h) s)

-- A read: what waits without its oldest byte has as many places.
pub behind_places : (q : Queue) → length q.bytes ≡ 16 → length (without_oldest q).bytes ≡ 16
unfolding waiting
behind_places q e = grind (arith, places-queue_of, length-take)

replies_behind_lem : (r : Replies) → length r.bytes ≡ 3 → length (replies_behind r).bytes ≡ 3
unfolding waiting_replies
replies_behind_lem r e = grind (arith, places-replies_of, length-take)

pub read_sized : (d : Dock) → IsSized d → IsSized (read_of d).dock
unfolding remembering
read_sized d s =
    read_keeps IsSized closing_sized d s
    (λ byte. other_keys s s.held (behind_places d.rest.outgoing.queue s.queue))
    (λ byte. other_replies s (replies_behind_lem d.rest.replies s.replies))

-- A swap.
pub swap_sized : (d : Dock) (map : List ℕ) → IsSized d → IsSized (swap_of d map).dock
unfolding remapped opened
swap_sized d map s =
    swap_keeps IsSized closing_sized d s map
    (λ long good. picked IsSized d.rest.handover _ _ (other_panel_lem s long s.closed s.counts) (other_panel_lem s long refl refl))

-- A dock that has just woken up.
default_types_sized : length default_types ≡ suc last_key
unfolding default_types rows
default_types_sized = refl

fresh_sized : (map : List ℕ) (replies : Replies) → length map ≡ 144 → length replies.bytes ≡ 3 → IsSized (fresh_with map replies)
unfolding fresh_with
fresh_sized map replies long three = grind (arith, default_types_sized, places-queue_of)

pub power_on_sized : IsSized power_on
unfolding power_on plain_map count_up
power_on_sized = fresh_sized plain_map _ refl (places-replies_of (0xaa ∷ []) (omega arith))

-- A frame.
one_reply : (answer : ℕ) → length (replies_of (answer ∷ [])).bytes ≡ 3
one_reply answer = grind (arith, places-replies_of)

module _ (d : Dock) (s : IsSized d) where
  cleared_sized : IsSized (cleared d)
  cleared_sized = grind (arith, places-queue_of)

  obeyed_sized : (byte : ℕ) → IsSized (obeyed byte d)
  obeyed_sized byte =
      by_command IsSized byte d (λ f0. cleared_sized) (λ f4. cleared_sized) (λ f5. other_types cleared_sized default_types_sized)
      (λ f6. other_types cleared_sized default_types_sized) (λ low high. other_types cleared_sized refl)
      (λ low high. cleared_sized) (λ ff. fresh_sized d.map d.rest.replies s.map s.replies) (λ none. s)

  took_sized : (byte : ℕ) → IsSized (took_byte byte d)
  unfolding commanded
  took_sized byte =
      by_byte IsSized byte d (λ fe. other_replies s (one_reply d.rest.given))
      (λ other high. other_replies (obeyed_sized byte) (places-replies_of (reply_to byte) (reply_short byte)))
      (λ low.
      let same = other_replies s (one_reply 0xfa) in
      by_value IsSized byte d same (λ f0. same) (other_replies s (places-replies_of (0xfa ∷ d.rest.mode.set ∷ []) (omega arith)))
      same (other_replies (other_types s (simp length-set s.types)) (one_reply 0xfa)) (other_replies s (one_reply 0xfe)))

  pub frame_sized : (number : ℕ) → IsSized (frame_of d number).dock
  frame_sized number = frame_keeps IsSized closing_sized d s number took_sized (other_replies s (one_reply 0xfe))
