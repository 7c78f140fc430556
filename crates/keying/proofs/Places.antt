-- The keys' arrays keep their places: 144 flags, and 16 places for the bytes that wait. Assumes nothing.
use mathlib.Core.Path.{◌≡◌}
use mathlib.Core.Bool.{Bool, true}
use mathlib.Core.List.{List}
use Prim.Native.Nat.{ℕ, ◌≤◌}
use native.Mathlib.Omega.{arith}
use lib.ListN.{length, get_or, take, length-take, length-set}
use Rattle.basics.specs.Lists.{all_up_to}
use Rattle.basics.proofs.Cases.{picked}
use Rattle.codes.specs.declared.Action.TheVariants.{Press, Release, Repeat}
use Rattle.codes.specs.Codes.{may_repeat}
use Rattle.keys.specs.Keys.{mark_of, last_key}
use Rattle.queue.specs.declared.Queue.{Queue}
use Rattle.queue.specs.Queues.{waiting}
use Rattle.queue.proofs.Meaning.{places-queue_of}
use Rattle.queue.proofs.Room.{pushed_short}
use Rattle.record.specs.declared.Mode.{Mode}
use Rattle.record.specs.Views.{Keys}
use Rattle.sending.specs.Sending.{sends, queued_of}
use Rattle.sending.proofs.Sent.{sends_short}
use Rattle.keying.specs.Repeat.{is_due, repeated}
use Rattle.keying.specs.Changes.{pressed, released_with, released, turns_to}
use Rattle.keying.specs.Handover.{handed_from}
use Rattle.keying.proofs.Kept.{handed_keeps, turns_keep}

pub record Places (k : Keys) : Type 0 where
  pub flags : length k.held ≡ 144
  pub bytes : length k.queue.bytes ≡ 16

queued_places : (q : Queue) (m : Mode) (bytes : List ℕ) → length q.bytes ≡ 16 → length (queued_of q m bytes).bytes ≡ 16
unfolding queued_of waiting
queued_places q m bytes e =
    let short : length (take q.length q.bytes) ≤ 16 = omega (arith, length-take q.length q.bytes) in
    places-queue_of _ (pushed_short (mark_of m.set) (take q.length q.bytes) bytes short)

module _ (m : Mode) where
  -- The bytes alone.
  pressed_bytes : (k : Keys) (type key : ℕ) → length k.queue.bytes ≡ 16 → length (pressed k m type key).queue.bytes ≡ 16
  unfolding pressed
  pressed_bytes k type key e = queued_places k.queue m (sends k m type key Press) e

  pub released_bytes : (k : Keys) (type key : ℕ) → length k.queue.bytes ≡ 16 → length (released k m type key).queue.bytes ≡ 16
  unfolding released released_with
  released_bytes k type key e = queued_places k.queue m (sends k m type key Release) e

  pub turns_bytes : (types map : List ℕ) → all_up_to last_key map ≡ true → (n : ℕ) (was is : List ℕ) (k : Keys) → length k.queue.bytes ≡ 16
      → length (turns_to n m types map was is k).queue.bytes ≡ 16
  turns_bytes = turns_keep (λ (k : Keys). length k.queue.bytes ≡ 16) m released_bytes (λ k type key h e. pressed_bytes k type key e)

  -- Both arrays.
  pressed_places : (k : Keys) (type key : ℕ) → Places k → Places (pressed k m type key)
  unfolding pressed
  pressed_places k type key p =
      record { flags = simp length-set p.flags; bytes = pressed_bytes k type key p.bytes }

  released_places : (k : Keys) (type key : ℕ) → Places k → Places (released k m type key)
  unfolding released released_with
  released_places k type key p =
      record { flags = simp length-set p.flags; bytes = released_bytes k type key p.bytes }

  pub turns_places : (types map : List ℕ) → all_up_to last_key map ≡ true → (n : ℕ) (was is : List ℕ) (k : Keys)
      → Places k → Places (turns_to n m types map was is k)
  turns_places = turns_keep Places m released_places (λ k type key h p. pressed_places k type key p)

  pub handed_places : (n key : ℕ) (k : Keys) (types : List ℕ) → Places k → Places (handed_from n key k m types).keys
  handed_places = handed_keeps Places m released_places

  pub repeated_places : (k : Keys) (types : List ℕ) (quiet : Bool) → Places k → Places (repeated k m types quiet)
  unfolding repeated
  repeated_places k types quiet p =
      let type = get_or types k.repeating 0 in
      let short = sends_short k m type k.repeating Repeat in
      picked Places (is_due k) _ _
      (picked Places (may_repeat m.set k.repeating type) _ _
      (record {
        flags = p.flags;
        bytes = picked (λ (q : Queue). length q.bytes ≡ 16) quiet _ _ (places-queue_of _ (omega (arith, short))) p.bytes;
      })
      (record { flags = p.flags; bytes = p.bytes }))
      p
