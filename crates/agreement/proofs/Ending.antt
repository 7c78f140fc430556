-- Reads make the dock quiet, and end a handover: while something waits each read leaves less to be read, and where nothing waits it
-- changes nothing, so that from any moment since power-on 1019 reads or more leave nothing waiting. Assumes nothing.
use mathlib.Core.Path.{◌≡◌, refl, ap}
use mathlib.Core.Bool.{Bool, true, false}
use mathlib.Core.List.{List, []}
use Prim.Native.Nat.{ℕ, zero, suc, ◌+◌, ◌≤◌, ◌<◌}
use native.Mathlib.Omega.{arith}
use borrow.Author.Tests.{eqb-false}
use lib.Dec.{eqb}
use lib.ListN.{length, replicate, drop}
use Rattle.basics.proofs.Cases.{by_cases, never}
use Rattle.dock.specs.Answers.{Taken}
use Rattle.dock.specs.Closing.{closing}
use Rattle.dock.specs.Scan.{quiet}
use Rattle.dock.specs.Read.{oldest, without_oldest, oldest_reply, replies_behind, remembering, reply_taken, key_byte_taken, read, read_of}
use Rattle.queue.specs.Queues.{waiting}
use Rattle.replies.specs.Replies.{waiting_replies}
use Rattle.queue.proofs.Meaning.{waiting-queue_of}
use Rattle.replies.proofs.ReplyMeaning.{waiting-replies_of}
use Rattle.record.specs.declared.Dock.{Dock}
use Rattle.record.specs.Views.{keys_of, with_queue}
use Rattle.record.specs.Parts.{with_keys, with_replies}
use Rattle.dock.specs.Calls.{Call, Read}
use Rattle.runs.specs.Machines.{ours}
use Rattle.runs.specs.Worlds.{World, woken, next, after_calls}
use Rattle.telling.proofs.Lessening.{to_read, held_most, handed_less}
use Rattle.agreement.proofs.Ready.{Settled}
use Rattle.agreement.proofs.Following.{none_wait}
use Rattle.agreement.proofs.Taken.{some_wait}
use Rattle.agreement.proofs.AnyCalls.{any_sound}
use Rattle.agreement.proofs.Bounds.{Steady, keys_counted, replies_counted, keys_few, replies_few, next_steady, reached_steady}

-- What is still to be read: the replies, the key bytes, and eight for each held key, the most that its release can have.
abbrev pub still_to_read : Dock → ℕ
still_to_read d = length (waiting_replies d.rest.replies) + to_read (keys_of d)

-- The end of a call does not make more of it.
closing_less : (d : Dock) → still_to_read (closing d) ≤ still_to_read d
unfolding closing
closing_less d = grind (arith, handed_less)

-- Bytes without the oldest are fewer.
fewer : (l : List ℕ) → 1 ≤ length l → length (drop 1 l) < length l
fewer l some = grind arith

-- Nothing waits in the queue of a quiet dock,
pub quiet_empty : (d : Dock) → quiet d ≡ true → waiting d.rest.outgoing.queue ≡ []
quiet_empty d e = grind (arith, none_wait)

-- and no handover is open: one that is has bytes waiting.
pub quiet_shut : (d : Dock) (scans : List (List ℕ)) → Settled d scans → quiet d ≡ true → d.rest.handover ≡ false
quiet_shut d scans s e = grind (arith, quiet_empty)

module _ (w : World) (s : Steady w) where
  d : Dock
  d = w.dock

  Less : Taken → Type 0
  Less t = still_to_read t.dock < still_to_read w.dock

  -- While something waits, a read leaves less to be read,
  pub read_brings_on : quiet w.dock ≡ false → still_to_read (next ours w Read).dock < still_to_read w.dock
  unfolding d Less next read_of read reply_taken key_byte_taken remembering
  read_brings_on waits =
      let q = d.rest.outgoing.queue in
      rw s.sound.range
      (by_cases Less (eqb d.rest.replies.length 0) _ _
      (λ none. by_cases Less (eqb q.length 0) _ (key_byte_taken d)
      (λ empty. never (quiet d) (rw (none, empty)) waits)
      (λ some.
      let first = some_wait q s.sound.settled.ready.places.bytes (eqb-false q.length 0 some) in
      let rest = remembering (with_keys d (with_queue (keys_of d) (without_oldest q))) (oldest q) in
      omega (arith, closing_less rest, ap length (waiting-queue_of (drop 1 (waiting q))), fewer (waiting q) first)))
      (λ some.
      let replies = waiting_replies d.rest.replies in
      let first : 1 ≤ length replies = omega (arith, replies_counted w s, eqb-false d.rest.replies.length 0 some) in
      let rest = remembering (with_replies d (replies_behind d.rest.replies)) (oldest_reply d.rest.replies) in
      omega (arith, closing_less rest, ap length (waiting-replies_of (drop 1 replies)), fewer replies first)))

  -- and where nothing does, it changes nothing.
  pub read_of_quiet : quiet w.dock ≡ true → (next ours w Read).dock ≡ w.dock
  unfolding d next read_of read closing
  read_of_quiet e = grind (arith, quiet_shut)

stays_quiet : (n : ℕ) (w : World) → Steady w → quiet w.dock ≡ true → quiet (after_calls ours w (replicate n Read)).dock ≡ true
unfolding after_calls
stays_quiet zero w s e = e
stays_quiet (suc n) w s e = stays_quiet n (next ours w Read) (next_steady w Read s) (rw (read_of_quiet w s e) e)

-- As many reads as there is to read leave nothing waiting.
reads_all : (n : ℕ) (w : World) → Steady w → still_to_read w.dock ≤ n → quiet (after_calls ours w (replicate n Read)).dock ≡ true
unfolding after_calls
reads_all zero w s none = grind (arith, replies_counted, keys_counted)
reads_all (suc n) w s most = go (quiet w.dock) refl (reads_all n (next ours w Read) (next_steady w Read s))
  where
    go : (b : Bool) → quiet w.dock ≡ b
        → (still_to_read (next ours w Read).dock ≤ n → quiet (after_calls ours (next ours w Read) (replicate n Read)).dock ≡ true)
        → quiet (after_calls ours (next ours w Read) (replicate n Read)).dock ≡ true
    go true e later = stays_quiet (suc n) w s e
    go false e later = later (omega (arith, read_brings_on w s e))

-- 1019: three replies, 16 key bytes, and eight for each of 125 keys.
pub enough_reads : (w : World) → Steady w → (n : ℕ) → 1019 ≤ n → quiet (after_calls ours w (replicate n Read)).dock ≡ true
enough_reads w s n enough = grind (arith, reads_all, keys_few, replies_few, held_most)

-- After any calls,
pub reads_quieten : (calls : List Call) (n : ℕ) → 1019 ≤ n → quiet (after_calls ours (after_calls ours (woken ours) calls) (replicate n Read)).dock ≡ true
reads_quieten calls n enough = enough_reads (after_calls ours (woken ours) calls) (reached_steady calls) n enough

-- so that no handover is left open.
pub handover_ends : (calls : List Call) (n : ℕ) → 1019 ≤ n → (after_calls ours (after_calls ours (woken ours) calls) (replicate n Read)).dock.rest.handover ≡ false
handover_ends calls n enough =
    let end = after_calls ours (after_calls ours (woken ours) calls) (replicate n Read) in
    let sound = any_sound (replicate n Read) (after_calls ours (woken ours) calls) (reached_steady calls).sound in
    quiet_shut end.dock end.onlooker.scans sound.settled (reads_quieten calls n enough)
