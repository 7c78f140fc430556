-- What the replies mean: the bytes that wait; and the array of three, place by place. Assumes nothing.
use mathlib.Core.Path.{◌≡◌}
use mathlib.Core.Bool.{true}
use mathlib.Core.List.{List, ◌++◌}
use Prim.Native.Nat.{ℕ, ◌≤◌}
use native.Mathlib.Omega.{arith}
use lib.ListN.{length, replicate, take, drop, length-take, length-drop}
use lib.Seq.{take-append_seam}
use Rattle.replies.specs.declared.Replies.{Replies}
use Rattle.replies.specs.Replies.{waiting_replies, replies_of, tidy_replies}
use Rattle.queue.proofs.Pushing.{drop_zeros}
use Rattle.queue.proofs.Places.{filled_tidy, filled_places, tidy_array_short, tidy_array_count}

-- The replies by their two fields.
abbrev pub replies : List ℕ → ℕ → Replies
replies bytes count = record { bytes = bytes; length = count }

pub replies_short : (r : Replies) → tidy_replies r ≡ true → r.length ≤ 3
unfolding tidy_replies
replies_short r t = tidy_array_short 3 r.bytes r.length t

pub length-waiting_replies : (r : Replies) → tidy_replies r ≡ true → length r.bytes ≡ 3 → length (waiting_replies r) ≡ r.length
unfolding tidy_replies waiting_replies
length-waiting_replies r t places = tidy_array_count 3 r.bytes r.length t places

-- The replies that are some bytes: they wait; they are in range if they are at most three, and have three places then.
pub waiting-replies_of : (l : List ℕ) → waiting_replies (replies_of l) ≡ l
unfolding waiting_replies replies_of
waiting-replies_of l = take-append_seam l _

pub tidy-replies_of : (l : List ℕ) → length l ≤ 3 → tidy_replies (replies_of l) ≡ true
unfolding tidy_replies replies_of
tidy-replies_of = filled_tidy 3

pub places-replies_of : (l : List ℕ) → length l ≤ 3 → length (replies_of l).bytes ≡ 3
unfolding replies_of
places-replies_of = filled_places 3

-- Without the oldest they are in range again.
pub popped_replies_tidy : (r : Replies) → tidy_replies r ≡ true → tidy_replies (replies_of (drop 1 (waiting_replies r))) ≡ true
unfolding waiting_replies
popped_replies_tidy r t =
    let bytes = take r.length r.bytes in
    tidy-replies_of _ (omega (arith, length-drop 1 bytes, length-take r.length r.bytes, replies_short r t))

-- Some bytes put over the first of three zeros are these bytes as the replies that wait.
pub replies_put : (bytes put : List ℕ) (count : ℕ) → put ≡ bytes → length bytes ≡ count → replies (put ++ drop count (replicate 3 0)) count ≡ replies_of bytes
unfolding replies_of
replies_put bytes put count e f = rw (e, drop_zeros 3 count, ← f)
