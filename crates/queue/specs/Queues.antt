-- Bytes that wait to be read (docs/RULES.md, section 7). Assumes nothing.
use Rattle.std.specs.Prelude.{ℕ, ◌+◌, ◌-◌, Bool, List, [], ◌∷◌, ◌++◌, leb, length, take, drop, replicate}
use Rattle.basics.specs.Choice.{pick, both}
use Rattle.basics.specs.Lists.{all_up_to}
use Rattle.codes.specs.declared.Sequence.{Sequence}
use Rattle.queue.specs.declared.Queue.{Queue}

-- The queue of these bytes, the first so many of which wait.
abbrev pub queue_with : List ℕ → ℕ → Queue
queue_with bytes count = record { bytes = bytes; length = count }

-- What a queue means: the bytes that wait, oldest first.
unfoldable pub waiting : Queue → List ℕ
waiting q = take q.length q.bytes

-- The queue that holds these bytes: zeros behind them.
unfoldable pub queue_of : List ℕ → Queue
queue_of bytes = record { bytes = bytes ++ replicate (16 - length bytes) 0; length = length bytes }

-- The first so many bytes of an array wait, no more than it has places, and zeros stand behind them.
abbrev pub tidy_array : ℕ → List ℕ → ℕ → Bool
tidy_array places bytes count = both (leb count places) (all_up_to 0 (drop count bytes))

-- The range of a queue, which has 16 places. So its meaning fixes it.
unfoldable pub tidy : Queue → Bool
tidy q = tidy_array 16 q.bytes q.length

-- The bytes of a sequence.
unfoldable pub contents : Sequence → List ℕ
contents s = take s.length s.bytes

-- There is room for so many bytes more, by how many wait,
abbrev pub room_for : ℕ → ℕ → Bool
room_for count more = leb (count + more) 16

-- and by those that wait.
abbrev pub has_room : List ℕ → ℕ → Bool
has_room bytes more = room_for (length bytes) more

-- A list with its last entry replaced.
unfoldable pub last_replaced : ℕ → List ℕ → List ℕ
last_replaced mark [] = []
last_replaced mark (x ∷ []) = mark ∷ []
last_replaced mark (x ∷ y ∷ rest) = x ∷ last_replaced mark (y ∷ rest)

-- A sequence goes in whole; if it does not fit, the last byte is replaced by the overrun mark.
unfoldable pub pushed_to : ℕ → List ℕ → List ℕ → List ℕ
pushed_to mark bytes sequence = pick (has_room bytes (length sequence)) (bytes ++ sequence) (last_replaced mark bytes)
