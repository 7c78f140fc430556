-- The replies that wait (docs/RULES.md, section 11). Assumes nothing.
use Rattle.std.specs.Prelude.{ℕ, ◌-◌, Bool, List, ◌++◌, length, take, replicate}
use Rattle.replies.specs.declared.Replies.{Replies}
use Rattle.queue.specs.Queues.{tidy_array}

-- What they mean: the bytes that wait, oldest first.
unfoldable pub waiting_replies : Replies → List ℕ
waiting_replies r = take r.length r.bytes

-- These bytes as the replies that wait: zeros behind them.
unfoldable pub replies_of : List ℕ → Replies
replies_of bytes = record { bytes = bytes ++ replicate (3 - length bytes) 0; length = length bytes }

-- The range of the replies: three places.
unfoldable pub tidy_replies : Replies → Bool
tidy_replies r = tidy_array 3 r.bytes r.length
