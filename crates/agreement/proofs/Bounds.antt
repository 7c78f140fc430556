-- Never more than 16 key bytes and never more than three replies wait: after any calls since power-on, overruns and clearing frames
-- included. Assumes nothing.
use native.Mathlib.Omega.{arith}
use mathlib.Core.Path.{◌≡◌}
use mathlib.Core.List.{List, [], ◌∷◌}
use Prim.Native.Nat.{◌≤◌}
use lib.ListN.{length}
use Rattle.dock.specs.Closing.{closing}
use Rattle.queue.specs.Queues.{waiting}
use Rattle.replies.specs.Replies.{waiting_replies}
use Rattle.queue.proofs.Meaning.{tidy_short, length_waiting}
use Rattle.replies.proofs.ReplyMeaning.{replies_short, length-waiting_replies}
use Rattle.record.specs.declared.Dock.{Dock}
use Rattle.record.specs.Views.{keys_of}
use Rattle.record.specs.Sized.{IsSized}
use Rattle.range.proofs.Ranges.{good_keys_queue, in_range_keys, in_range_replies}
use Rattle.dock.specs.Calls.{Call, Scan, Swap, Frame, Read, as_bytes}
use Rattle.runs.specs.Machines.{ours}
use Rattle.runs.specs.Worlds.{World, woken, next, after_calls}
use Rattle.agreement.proofs.AnyCalls.{Sound, woken_sound, any_sound}
use Rattle.dock.proofs.Arrays.{scan_sized, swap_sized, frame_sized, read_sized, power_on_sized}

-- The end of a call leaves the replies alone.
pub closing_replies : (d : Dock) → (closing d).rest.replies ≡ d.rest.replies
unfolding closing
closing_replies d = grind arith

-- The dock is sound, and its arrays have their sizes.
pub record Steady (w : World) : Type 0 where
  pub sound : Sound w
  pub sized : IsSized w.dock

woken_steady : Steady (woken ours)
unfolding woken
woken_steady = record { sound = woken_sound; sized = power_on_sized }

next_sized : (w : World) (call : Call) → Steady w → IsSized (next ours w call).dock
unfolding next
next_sized w (Scan scan) s = scan_sized w.dock (as_bytes scan) s.sound.range s.sized
next_sized w (Swap map) s = swap_sized w.dock map s.sized
next_sized w (Frame number) s = frame_sized w.dock s.sized number
next_sized w Read s = read_sized w.dock s.sized

pub next_steady : (w : World) (call : Call) → Steady w → Steady (next ours w call)
unfolding after_calls
next_steady w call s = record { sound = any_sound (call ∷ []) w s.sound; sized = next_sized w call s }

pub any_steady : (calls : List Call) (w : World) → Steady w → Steady (after_calls ours w calls)
unfolding after_calls
any_steady [] w s = s
any_steady (call ∷ calls) w s = any_steady calls (next ours w call) (next_steady w call s)

-- Any world that calls lead to.
pub reached_steady : (calls : List Call) → Steady (after_calls ours (woken ours) calls)
reached_steady calls = any_steady calls (woken ours) woken_steady

-- As many bytes wait as the lengths say: at most 16 in the queue, and at most three replies.
pub keys_counted : (w : World) → Sound w → length (waiting w.dock.rest.outgoing.queue) ≡ w.dock.rest.outgoing.queue.length
keys_counted w s =
    let d = w.dock in
    length_waiting d.rest.outgoing.queue (good_keys_queue (keys_of d) (in_range_keys d s.range)) s.settled.ready.places.bytes

pub replies_counted : (w : World) → Steady w → length (waiting_replies w.dock.rest.replies) ≡ w.dock.rest.replies.length
replies_counted w s = grind (arith, length-waiting_replies, in_range_replies)

pub keys_few : (w : World) → Sound w → length (waiting w.dock.rest.outgoing.queue) ≤ 16
keys_few w s =
    let d = w.dock in
    rw (keys_counted w s) (tidy_short d.rest.outgoing.queue (good_keys_queue (keys_of d) (in_range_keys d s.range)))

pub replies_few : (w : World) → Steady w → length (waiting_replies w.dock.rest.replies) ≤ 3
replies_few w s = rw (replies_counted w s) (replies_short w.dock.rest.replies (in_range_replies w.dock s.sound.range))

-- After any calls.
pub queue_bounded : (calls : List Call) → length (waiting (after_calls ours (woken ours) calls).dock.rest.outgoing.queue) ≤ 16
queue_bounded calls = keys_few (after_calls ours (woken ours) calls) (reached_steady calls).sound

pub replies_bounded : (calls : List Call) → length (waiting_replies (after_calls ours (woken ours) calls).dock.rest.replies) ≤ 3
replies_bounded calls = replies_few (after_calls ours (woken ours) calls) (reached_steady calls)
