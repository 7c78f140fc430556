-- A read as the code meets it, by what is taken off. Assumes nothing.
use mathlib.Core.Path.{◌≡◌}
use mathlib.Core.Bool.{true, false}
use mathlib.Core.List.{List, [], ◌∷◌}
use Prim.Native.Nat.{ℕ, zero, suc}
use native.Mathlib.Omega.{arith}
use borrow.Author.Tests.{ne_eqb}
use lib.Dec.{eqb}
use lib.ListN.{get_or, take}
use Rattle.std.specs.Prelude.{Some, None, Ok, slice_get}
use Rattle.queue.specs.declared.Queue.{Queue}
use Rattle.replies.specs.declared.Replies.{Replies}
use Rattle.queue.specs.Queues.{waiting}
use Rattle.replies.specs.Replies.{waiting_replies}
use Rattle.record.specs.declared.Dock.{Dock}
use Rattle.record.specs.Views.{with_queue, keys_of}
use Rattle.record.specs.Parts.{with_replies, with_keys}
use Rattle.range.specs.Range.{in_range}
use Rattle.dock.specs.declared.Given.TheVariants.{Reply, KeyByte}
use Rattle.dock.specs.Answers.{taken}
use Rattle.dock.specs.Closing.{closing}
use Rattle.dock.specs.Read.{without_oldest, replies_behind, remembering, reply_taken, key_byte_taken, read, read_of}

-- In its range the record is read.
pub read_done : (d : Dock) → in_range d ≡ true → read d ≡ read_of d
unfolding read_of
read_done d h = rw h

-- The first so many of some bytes wait, and there is an oldest.
some_waits : (count : ℕ) (bytes : List ℕ) (byte : ℕ) → Some byte ≡ slice_get (take count bytes) 0
    → (eqb count 0 ≡ false) × (get_or (take count bytes) 0 0 ≡ byte)
some_waits zero bytes byte e = absurd (cc)
some_waits (suc n) [] byte e = absurd (cc)
some_waits (suc n) (x ∷ bytes) byte e = (ne_eqb (suc n) 0 (λ z. omega arith), cc)

module _ (d : Dock) where
  -- What is given is the oldest.
  module _ (byte : ℕ) (r : Dock) where
    pub read_reply : Some byte ≡ slice_get (waiting_replies d.rest.replies) 0 → (left : Replies) → left ≡ replies_behind d.rest.replies
        → r ≡ closing (remembering (with_replies d left) byte) → taken (Ok (Some (Reply byte))) r ≡ read d
    unfolding read reply_taken waiting_replies
    read_reply e left l i =
        let w = some_waits d.rest.replies.length d.rest.replies.bytes byte e in
        rw (i, l, w.0, w.1)

    pub read_key_byte : d.rest.replies.length ≡ 0 → Some byte ≡ slice_get (waiting d.rest.outgoing.queue) 0 → (left : Queue)
        → left ≡ without_oldest d.rest.outgoing.queue → r ≡ closing (remembering (with_keys d (with_queue (keys_of d) left)) byte)
        → taken (Ok (Some (KeyByte byte))) r ≡ read d
    unfolding read key_byte_taken waiting
    read_key_byte none e left l i =
        let w = some_waits d.rest.outgoing.queue.length d.rest.outgoing.queue.bytes byte e in
        rw (i, l, none, w.0, w.1)

  pub read_nothing : (r : Dock) → d.rest.replies.length ≡ 0 → d.rest.outgoing.queue.length ≡ 0 → r ≡ closing d → taken (Ok None) r ≡ read d
  unfolding read
  read_nothing r none empty i = rw (i, none, empty)
