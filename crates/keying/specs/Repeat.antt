-- Repeat (docs/RULES.md, section 6). Assumes nothing.
use Rattle.std.specs.Prelude.{ℕ, ◌+◌, ◌-◌, ◌*◌, ◌/◌, ◌%◌, ◌^◌, Bool, not, List, eqb, get_or}
use Rattle.basics.specs.Choice.{pick, both}
use Rattle.codes.specs.declared.Action.TheVariants.{Repeat}
use Rattle.codes.specs.Codes.{may_repeat}
use Rattle.queue.specs.Queues.{queue_of}
use Rattle.record.specs.declared.Mode.{Mode}
use Rattle.record.specs.Views.{Keys, with_repeat, with_queue}
use Rattle.sending.specs.Sending.{sends}

-- The scans from a press to its first repeat: C + 1 quarters of a second, C being bits 6 and 5 of the rate.
unfoldable pub delay_of : ℕ → ℕ
delay_of rate = (rate / 32 + 1) * 60

-- The scans from a repeat to the next: (8 + A) × 2^B, A being bits 2 to 0 and B bits 4 and 3.
unfoldable pub interval_of : ℕ → ℕ
interval_of rate = (8 + rate % 8) * 2 ^ (rate / 8 % 4)

-- One scan less to the next repeat.
abbrev pub ticked : Keys → Keys
ticked k = with_repeat k k.repeating (k.countdown - 1)

-- A repeat is due.
abbrev pub is_due : Keys → Bool
is_due k = both (not (eqb k.repeating 0)) (eqb k.countdown 0)

-- A repeat that is due is sent if all is quiet, and is lost otherwise; either way the next interval begins. A key that may not
-- repeat any more stops.
unfoldable pub repeated : Keys → Mode → List ℕ → Bool → Keys
repeated k m types quiet =
    let type = get_or types k.repeating 0 in
    pick (is_due k)
    (pick (may_repeat m.set k.repeating type)
    (with_repeat (with_queue k (pick quiet (queue_of (sends k m type k.repeating Repeat)) k.queue)) k.repeating (interval_of m.rate))
    (with_repeat k 0 0))
    k
