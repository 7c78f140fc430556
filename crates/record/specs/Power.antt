-- The dock at power-on (docs/RULES.md, section 11). Assumes nothing.
use Rattle.std.specs.Prelude.{ℕ, zero, suc, true, false, List, [], ◌∷◌, ◌++◌, map, replicate}
use Rattle.hostbytes.specs.Named as host
use Rattle.keys.specs.Keys.{rows, no_row, row_type}
use Rattle.replies.specs.declared.Replies.{Replies}
use Rattle.queue.specs.Queues.{queue_of}
use Rattle.replies.specs.Replies.{replies_of}
use Rattle.record.specs.declared.Rest.{Rest}
use Rattle.record.specs.declared.Dock.{Dock}
use Rattle.record.specs.Parts.{dock_with, rest_of}

-- n numbers from `first` on.
unfoldable pub count_up : ℕ → ℕ → List ℕ
count_up first zero = []
count_up first (suc n) = first ∷ count_up (suc first) n

-- The plain map: position p holds key p + 1, and past the keys there is none.
unfoldable pub plain_map : List ℕ
plain_map = count_up 1 104 ++ replicate 40 0

-- The default types, by key number.
unfoldable pub default_types : List ℕ
default_types = map row_type (no_row ∷ rows)

-- The default rate: 120 scans, then every 22 (docs/RULES.md, section 6).
abbrev pub default_rate : ℕ
default_rate = 0x2b

-- A dock that has just woken up: set 2, default rate and types, scanning on, indicators off, nothing held, no byte given yet.
abbrev pub fresh_rest : Replies → Rest
fresh_rest replies =
    rest_of (record { queue = queue_of []; repeating = 0; countdown = 0 }) (record { set = 2; rate = default_rate; indicators = 0 })
    replies true 0 false host.resend

unfoldable pub fresh_with : List ℕ → Replies → Dock
fresh_with map replies = dock_with map (replicate 18 0) (replicate 144 0) (replicate 144 0) default_types (fresh_rest replies)

-- Power-on: the plain map, and AA waits as a reply.
unfoldable pub power_on : Dock
power_on = fresh_with plain_map (replies_of (host.awake ∷ []))
