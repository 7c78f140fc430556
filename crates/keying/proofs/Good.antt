-- Keys in range stay in range, whatever happens to them. Assumes nothing.
use mathlib.Core.Path.{◌≡◌}
use mathlib.Core.Bool.{Bool, true}
use mathlib.Core.List.{List}
use Prim.Native.Nat.{ℕ, zero, suc, ◌+◌, ◌*◌, ◌/◌, ◌%◌, ◌^◌, ◌≤◌, ◌<◌}
use native.Mathlib.Omega.{arith}
use lib.Dec.{eqb}
use lib.ListN.{get_or}
use Rattle.basics.specs.Lists.{all_up_to}
use Rattle.basics.proofs.Cases.{picked}
use Rattle.codes.specs.declared.Action.TheVariants.{Press, Release, Repeat}
use Rattle.codes.specs.Codes.{may_repeat}
use Rattle.keys.specs.Keys.{mark_of, last_key}
use Rattle.queue.specs.declared.Queue.{Queue}
use Rattle.queue.specs.Queues.{tidy}
use Rattle.queue.proofs.Meaning.{tidy-queue_of}
use Rattle.queue.proofs.Range.{pushed_tidy}
use Rattle.record.specs.declared.Mode.{Mode}
use Rattle.record.specs.Views.{Keys}
use Rattle.range.specs.Range.{good_mode, good_keys}
use Rattle.range.proofs.Ranges.{good_mode_rate, good_outgoing_lem, good_keys_queue, good_keys_repeating, good_keys_countdown, good_keys_with_repeat}
use Rattle.sending.specs.Sending.{sends, queued_of}
use Rattle.sending.proofs.Sent.{sends_short}
use Rattle.keying.specs.Repeat.{delay_of, interval_of, ticked, is_due, repeated}
use Rattle.keying.specs.Changes.{pressed, released_with, released, moved, turns_to}
use Rattle.keying.specs.Handover.{handed_from}
use Rattle.keying.proofs.Kept.{handed_keeps, moved_keeps, turns_keep}

-- A queue stays one, whatever is queued.
queued_tidy : (q : Queue) (m : Mode) (bytes : List ℕ) → tidy q ≡ true → tidy (queued_of q m bytes) ≡ true
unfolding queued_of
queued_tidy q m bytes t = pushed_tidy q t (mark_of m.set) bytes

-- No delay and no interval outlasts the countdown.
delay_small : (rate : ℕ) → rate ≤ 127 → delay_of rate ≤ 240
unfolding delay_of
delay_small rate h = omega arith

steps_small : (a b : ℕ) → a < 8 → b < 4 → (8 + a) * 2 ^ b ≤ 120
steps_small a zero h l = omega arith
steps_small a (suc zero) h l = omega arith
steps_small a (suc (suc zero)) h l = omega arith
steps_small a (suc (suc (suc zero))) h l = omega arith
steps_small a (suc (suc (suc (suc b)))) h l = absurd (omega arith)

pub interval_small : (rate : ℕ) → interval_of rate ≤ 120
unfolding interval_of
interval_small rate = steps_small (rate % 8) (rate / 8 % 4) (omega arith) (omega arith)

-- A key goes down or comes up, and contacts turn.
abbrev InRange : Keys → Type 0
InRange k = good_keys k ≡ true

module _ (m : Mode) where
  pub released_good : (k : Keys) (type key : ℕ) → good_keys k ≡ true → good_keys (released k m type key) ≡ true
  unfolding released released_with
  released_good k type key g =
      good_outgoing_lem _
      (queued_tidy k.queue m (sends k m type key Release) (good_keys_queue k g))
      (picked (λ (n : ℕ). n ≤ last_key) (eqb k.repeating key) 0 k.repeating (omega arith) (good_keys_repeating k g))
      (picked (λ (n : ℕ). n ≤ 240) (eqb k.repeating key) 0 k.countdown (omega arith) (good_keys_countdown k g))

  pub handed_good : (n key : ℕ) (k : Keys) (types : List ℕ) → good_keys k ≡ true → good_keys (handed_from n key k m types).keys ≡ true
  handed_good = handed_keeps InRange m released_good

  module _ (h : good_mode m ≡ true) where
    pressed_good : (k : Keys) (type key : ℕ) → key ≤ last_key → good_keys k ≡ true → good_keys (pressed k m type key) ≡ true
    unfolding pressed
    pressed_good k type key l g =
        let may = may_repeat m.set key type in
        good_outgoing_lem _
        (queued_tidy k.queue m (sends k m type key Press) (good_keys_queue k g))
        (picked (λ (n : ℕ). n ≤ last_key) may key 0 l (omega arith))
        (picked (λ (n : ℕ). n ≤ 240) may (delay_of m.rate) 0 (delay_small m.rate (good_mode_rate m h)) (omega arith))

    module _ (types : List ℕ) where
      pub moved_good : (key closed : ℕ) → key ≤ last_key → (k : Keys) → good_keys k ≡ true → good_keys (moved k m types key closed) ≡ true
      moved_good = moved_keeps InRange m released_good pressed_good types

      module _ (map : List ℕ) (a : all_up_to last_key map ≡ true) where
        pub turns_good : (n : ℕ) (was is : List ℕ) (k : Keys) → good_keys k ≡ true → good_keys (turns_to n m types map was is k) ≡ true
        turns_good = turns_keep InRange m released_good pressed_good types map a

-- The key that repeats.
pub ticked_good : (k : Keys) → good_keys k ≡ true → good_keys (ticked k) ≡ true
ticked_good k g = good_keys_with_repeat k g _ _ (good_keys_repeating k g) (omega (arith, good_keys_countdown k g))

pub repeated_good : (k : Keys) (m : Mode) (types : List ℕ) (quiet : Bool) → good_keys k ≡ true → good_keys (repeated k m types quiet) ≡ true
unfolding repeated
repeated_good k m types quiet g =
    let type = get_or types k.repeating 0 in
    let short = sends_short k m type k.repeating Repeat in
    picked InRange (is_due k) _ _
    (picked InRange (may_repeat m.set k.repeating type) _ _
    (good_outgoing_lem _
    (picked (λ (q : Queue). tidy q ≡ true) quiet _ _ (tidy-queue_of _ (omega (arith, short))) (good_keys_queue k g))
    (good_keys_repeating k g)
    (omega (arith, interval_small m.rate)))
    (good_keys_with_repeat k g 0 0 (omega arith) (omega arith)))
    g
