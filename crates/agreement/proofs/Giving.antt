-- A read gives the oldest reply that waits, else the oldest key byte, and nothing only where neither waits. Assumes nothing.
use mathlib.Core.Path.{◌≡◌}
use mathlib.Core.List.{List}
use native.Mathlib.Omega.{arith}
use lib.ListN.{drop}
use Rattle.std.proofs.lemmas.Grind.{common_steps}
use Rattle.std.specs.Prelude.{Ok}
use Rattle.dock.specs.Read.{remembering, reply_taken, key_byte_taken, read, read_of}
use Rattle.queue.specs.Queues.{waiting}
use Rattle.replies.specs.Replies.{waiting_replies}
use Rattle.replies.proofs.ReplyMeaning.{waiting-replies_of}
use Rattle.dock.specs.Calls.{Call, Read}
use Rattle.runs.specs.Machines.{ours}
use Rattle.runs.specs.Worlds.{World, woken, next, after_calls}
use Rattle.runs.specs.Bytes.{foremost}
use Rattle.agreement.proofs.Bounds.{Steady, closing_replies, keys_counted, replies_counted, reached_steady}

pub read_gives : (w : World) → Steady w
    → (read_of w.dock).given ≡ Ok (foremost (waiting_replies w.dock.rest.replies) (waiting w.dock.rest.outgoing.queue))
unfolding read_of read reply_taken key_byte_taken
read_gives w s = grind (arith, common_steps, replies_counted, keys_counted)

-- So it is after any calls.
pub any_read_gives : (calls : List Call)
    → (read_of (after_calls ours (woken ours) calls).dock).given
    ≡ Ok (foremost (waiting_replies (after_calls ours (woken ours) calls).dock.rest.replies) (waiting (after_calls ours (woken ours) calls).dock.rest.outgoing.queue))
any_read_gives calls = read_gives (after_calls ours (woken ours) calls) (reached_steady calls)

-- It leaves the replies behind the oldest, in order; of the key bytes see Queue.
pub read_leaves : (w : World) → Steady w → waiting_replies (next ours w Read).dock.rest.replies ≡ drop 1 (waiting_replies w.dock.rest.replies)
unfolding waiting_replies next read_of read reply_taken key_byte_taken remembering
read_leaves w s = grind (arith, closing_replies, waiting-replies_of)
