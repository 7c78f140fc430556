-- What a queue means: a queue in range is fixed by the bytes that wait in it. Assumes nothing.
use mathlib.Core.Path.{◌≡◌, refl, sym, ap₂}
use mathlib.Core.Bool.{Bool, true, false}
use mathlib.Core.List.{List}
use Prim.Native.Nat.{ℕ, ◌+◌, ◌-◌, ◌≤◌}
use borrow.Author.Tests.{leb-true, leb-false, le-leb, lt-leb}
use lib.Dec.{leb}
use native.Mathlib.Omega.{arith}
use lib.ListN.{length}
use lib.Seq.{length-take-le, take-append_seam}
use Rattle.codes.specs.declared.Sequence.{Sequence}
use Rattle.codes.specs.Sequences.{holding}
use Rattle.codes.proofs.Adding.{holding_bytes}
use Rattle.queue.specs.declared.Queue.{Queue}
use Rattle.queue.specs.Queues.{queue_with, waiting, queue_of, tidy, contents, has_room}
use Rattle.queue.proofs.Places.{filled_tidy, filled_places, tidy_array_short, tidy_array_count, tidy_array_is}

-- As many bytes wait as the length says, if it is at most 16.
pub count_waiting : (q : Queue) → length q.bytes ≡ 16 → q.length ≤ 16 → length (waiting q) ≡ q.length
unfolding waiting
count_waiting q places h = length-take-le q.length q.bytes (omega arith)

-- So there is room for so many more as the code counts.
pub room_as_counted : (q : Queue) → length q.bytes ≡ 16 → q.length ≤ 16 → (more : ℕ) → leb more (16 - q.length) ≡ has_room (waiting q) more
room_as_counted q places h more = go (leb more (16 - q.length)) refl
  where
    go : (b : Bool) → leb more (16 - q.length) ≡ b → b ≡ has_room (waiting q) more
    go true e = sym (le-leb (length (waiting q) + more) 16 (omega (arith, leb-true more (16 - q.length) e, count_waiting q places h)))
    go false e = sym (lt-leb (length (waiting q) + more) 16 (omega (arith, leb-false more (16 - q.length) e, count_waiting q places h)))

pub tidy_short : (q : Queue) → tidy q ≡ true → q.length ≤ 16
unfolding tidy
tidy_short q t = tidy_array_short 16 q.bytes q.length t

pub length_waiting : (q : Queue) → tidy q ≡ true → length q.bytes ≡ 16 → length (waiting q) ≡ q.length
length_waiting q t places = count_waiting q places (tidy_short q t)

-- A queue in range is the queue that holds the bytes that wait in it.
pub tidy_is : (q : Queue) → length q.bytes ≡ 16 → tidy q ≡ true → q ≡ queue_of (waiting q)
unfolding queue_of waiting tidy
tidy_is q places t = ap₂ queue_with (tidy_array_is 16 q.bytes q.length t places) (sym (tidy_array_count 16 q.bytes q.length t places))

-- The queue of some bytes: they wait in it; it is in range if they are at most 16, and has 16 places then.
pub waiting-queue_of : (l : List ℕ) → waiting (queue_of l) ≡ l
unfolding waiting queue_of
waiting-queue_of l = take-append_seam l _

pub tidy-queue_of : (l : List ℕ) → length l ≤ 16 → tidy (queue_of l) ≡ true
unfolding tidy queue_of
tidy-queue_of = filled_tidy 16

pub places-queue_of : (l : List ℕ) → length l ≤ 16 → length (queue_of l).bytes ≡ 16
unfolding queue_of
places-queue_of = filled_places 16

-- A sequence likewise: its length counts its contents, and the sequence that holds some bytes has them as its contents.
pub count_contents : (s : Sequence) → length s.bytes ≡ 8 → s.length ≤ 8 → length (contents s) ≡ s.length
unfolding contents
count_contents s places h = length-take-le s.length s.bytes (omega arith)

pub contents_holding : (l : List ℕ) → contents (holding l) ≡ l
unfolding contents
contents_holding = holding_bytes
