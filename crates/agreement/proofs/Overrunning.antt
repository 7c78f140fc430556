-- A scan overruns the queue exactly if what waits and what its events send are more than 16 bytes together. Assumes nothing.
use mathlib.Core.Path.{◌≡◌, refl, ap, ◌∙◌}
use mathlib.Core.Bool.{Bool, true, false}
use mathlib.Core.List.{List}
use Prim.Native.Nat.{ℕ, zero, suc, ◌+◌, ◌≤◌}
use native.Mathlib.Omega.{arith}
use borrow.Author.Tests.{le-ltb, ltb-false}
use lib.Dec.{ltb}
use lib.ListN.{length, length-append}
use Rattle.basics.specs.Choice.{both}
use Rattle.basics.specs.Lists.{all_up_to}
use Rattle.basics.proofs.Cases.{neither, never}
use Rattle.contacts.specs.Counts.{counted_of}
use Rattle.dock.specs.Scan.{is_counted}
use Rattle.keying.specs.Changes.{turns_to}
use Rattle.keying.specs.Repeat.{ticked}
use Rattle.keying.proofs.Good.{turns_good}
use Rattle.keying.proofs.Places.{turns_bytes}
use Rattle.keys.specs.Keys.{last_key}
use Rattle.queue.specs.declared.Queue.{Queue}
use Rattle.queue.specs.Queues.{waiting}
use Rattle.queue.proofs.Meaning.{tidy_short, length_waiting}
use Rattle.range.specs.Range.{good_mode, good_keys}
use Rattle.range.proofs.Ranges.{good_keys_queue}
use Rattle.record.specs.declared.Mode.{Mode}
use Rattle.record.specs.Views.{Keys, contacts_of, keys_of}
use Rattle.record.specs.declared.Dock.{Dock}
use Rattle.telling.specs.Overruns.{lacks_room, overruns_at, overruns_to}
use Rattle.telling.specs.Queued.{move_bytes, turn_bytes_at, turn_bytes}
use Rattle.telling.proofs.Whole.{turns_whole}

-- The changes of a scan overrun the queue as it goes: one of them does not fit.
unfoldable pub changes_overrun : Dock → List ℕ → Bool
changes_overrun d scan =
    overruns_to 144 d.rest.mode d.types d.map d.closed (counted_of (contacts_of d) scan).closed (ticked (keys_of d))

-- A scan does: it is counted, and its changes do.
unfoldable pub scan_overruns : Dock → List ℕ → Bool
scan_overruns d scan = both (is_counted d scan) (changes_overrun d scan)

module _ (m : Mode) (types map was is : List ℕ) where
  -- What the key at a position sends fits, or nothing turned there.
  turn_fits : (position : ℕ) (k : Keys) → length (waiting k.queue) + length (turn_bytes_at m types map was is position k) ≤ 16
      → overruns_at m types map was is position k ≡ false
  unfolding turn_bytes_at move_bytes overruns_at lacks_room
  turn_fits position k = grind arith

  -- So do all of them, if they do together.
  pub turns_fit : (n : ℕ) (k : Keys) → length (waiting k.queue) + length (turn_bytes n m types map was is k) ≤ 16
      → overruns_to n m types map was is k ≡ false
  unfolding turn_bytes overruns_to
  turns_fit zero k room = refl
  turns_fit (suc n) k room =
      let so_far = turns_to n m types map was is k in
      let before = turn_bytes n m types map was is k in
      let now = turn_bytes_at m types map was is n so_far in
      let both-lengths = length-append before now in
      let calm = turns_fit n k (omega arith) in
      let waits = ap length (turns_whole m types map n was is k calm) ∙ length-append (waiting k.queue) before in
      neither (overruns_to n m types map was is k) (overruns_at m types map was is n so_far) calm
      (turn_fits n so_far (omega arith))

  -- And if they do not together, one of them does not: in a queue in its range no more than 16 bytes wait.
  pub turns_exactly : good_mode m ≡ true → all_up_to last_key map ≡ true → (n : ℕ) (k : Keys) → good_keys k ≡ true → length k.queue.bytes ≡ 16
      → ltb 16 (length (waiting k.queue) + length (turn_bytes n m types map was is k)) ≡ overruns_to n m types map was is k
  turns_exactly mode entries n k good places = go (overruns_to n m types map was is k) refl
    where
      sent : ℕ
      sent = length (waiting k.queue) + length (turn_bytes n m types map was is k)

      after : Queue
      after = (turns_to n m types map was is k).queue

      go : (b : Bool) → overruns_to n m types map was is k ≡ b → ltb 16 sent ≡ b
      go true e = over (ltb 16 sent) refl
        where
          over : (b : Bool) → ltb 16 sent ≡ b → ltb 16 sent ≡ true
          over true f = f
          over false f = never (overruns_to n m types map was is k) e (turns_fit n k (ltb-false 16 sent f))
      go false e =
          let tidied = good_keys_queue (turns_to n m types map was is k) (turns_good m mode types map entries n was is k good) in
          let count = length_waiting after tidied (turns_bytes m types map entries n was is k places) in
          let waits = ap length (turns_whole m types map n was is k e) ∙ length-append (waiting k.queue) (turn_bytes n m types map was is k) in
          le-ltb 16 sent (omega (arith, tidy_short after tidied))
