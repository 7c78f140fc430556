-- All that is no array stays in its range, whatever is commanded and whatever the map is. Assumes nothing.
use mathlib.Core.Path.{◌≡◌, refl}
use mathlib.Core.Bool.{Bool, true, false}
use mathlib.Core.List.{List, [], ◌∷◌}
use Prim.Native.Nat.{ℕ, suc, ◌-◌, ◌≤◌}
use native.Mathlib.Omega.{arith}
use lib.Dec.{eqb}
use lib.ListN.{length, replicate}
use Rattle.basics.specs.Choice.{pick, either}
use Rattle.basics.proofs.Cases.{picked, either_true}
use Rattle.keys.specs.Keys.{last_key}
use Rattle.queue.specs.Queues.{queue_of}
use Rattle.replies.specs.Replies.{replies_of}
use Rattle.queue.proofs.Meaning.{tidy-queue_of}
use Rattle.replies.proofs.ReplyMeaning.{tidy-replies_of}
use Rattle.record.specs.declared.Dock.{Dock}
use Rattle.record.specs.Power.{default_types, default_rate, fresh_with}
use Rattle.record.specs.Views.{keys_of}
use Rattle.record.specs.Parts.{with_map}
use Rattle.range.specs.Range.{takes_value, good_waiting, good_rest, in_range}
use Rattle.range.proofs.Ranges.{alone_in_range, in_range_rest, good_mode_lem, good_mode_set, good_mode_rate, good_mode_indicators, good_keys_with_queue, good_keys_with_repeat, in_range_map, in_range_keys, in_range_mode, in_range_replies, in_range_with_keys, in_range_with_types, in_range_with_mode, in_range_with_replies, in_range_with_waiting, in_range_with_scanning}
use Rattle.range.proofs.PowerOn.{fresh_in_range}
use Rattle.commands.specs.Commands.{replying, cleared, unrepeated, quietened, with_set, with_rate, defaulted, typed, restarted, obeyed, reply_to, commanded}
use Rattle.commands.proofs.Ladder.{by_command}

abbrev Short : List ℕ → Type 0
Short l = length l ≤ 3

abbrev pub InRange : Dock → Type 0
InRange d = in_range d ≡ true

-- No command is answered with more than three bytes.
pub reply_short : (byte : ℕ) → length (reply_to byte) ≤ 3
unfolding reply_to
reply_short byte =
    picked Short (eqb byte 0xee) (0xee ∷ []) _ (omega arith)
    (picked Short (either (eqb byte 0xef) (eqb byte 0xf1)) (0xfe ∷ []) _ (omega arith)
    (picked Short (eqb byte 0xf2) (0xfa ∷ 0xab ∷ 0x83 ∷ []) _ (omega arith)
    (picked Short (eqb byte 0xff) (0xfa ∷ 0xaa ∷ []) (0xfa ∷ []) (omega arith) (omega arith))))

-- A command that is left waiting takes a value.
waits_well : (byte : ℕ) (t : Bool) → takes_value byte ≡ t → good_waiting (pick t byte 0) ≡ true
waits_well byte true e = rw e (either_true (eqb byte 0))
waits_well byte false e = refl

module _ (d : Dock) (h : in_range d ≡ true) where
  pub replying_in_range : (bytes : List ℕ) → length bytes ≤ 3 → in_range (replying bytes d) ≡ true
  replying_in_range bytes few = in_range_with_replies d h (replies_of bytes) (tidy-replies_of bytes few)

  cleared_in_range : in_range (cleared d) ≡ true
  cleared_in_range = in_range_with_keys d h _ (good_keys_with_queue (keys_of d) (in_range_keys d h) (queue_of []) (tidy-queue_of [] (omega arith)))

  unrepeated_in_range : in_range (unrepeated d) ≡ true
  unrepeated_in_range = in_range_with_keys d h _ (good_keys_with_repeat (keys_of d) (in_range_keys d h) 0 0 (omega arith) (omega arith))

  pub set_in_range : (set : ℕ) → 1 ≤ set → set ≤ 3 → in_range (with_set set d) ≡ true
  set_in_range set a b =
      let g = in_range_mode d h in
      in_range_with_mode d h _ (good_mode_lem _ a b (good_mode_rate d.rest.mode g) (good_mode_indicators d.rest.mode g))

  pub rate_in_range : (rate : ℕ) → rate ≤ 127 → in_range (with_rate rate d) ≡ true
  rate_in_range rate a =
      let g = in_range_mode d h in
      in_range_with_mode d h _
      (good_mode_lem _ (good_mode_set d.rest.mode g).low (good_mode_set d.rest.mode g).high a (good_mode_indicators d.rest.mode g))

  restarted_in_range : in_range (restarted d) ≡ true
  restarted_in_range = fresh_in_range d.map d.rest.replies (in_range_map d h) (in_range_replies d h)

module _ (d : Dock) (h : in_range d ≡ true) where
  quietened_in_range : in_range (quietened d) ≡ true
  quietened_in_range = unrepeated_in_range (cleared d) (cleared_in_range d h)

  defaulted_in_range : in_range (defaulted d) ≡ true
  defaulted_in_range =
      let quiet = quietened d in
      let set = set_in_range quiet quietened_in_range 2 (omega arith) (omega arith) in
      in_range_with_types (with_rate default_rate (with_set 2 quiet)) (rate_in_range (with_set 2 quiet) set default_rate (omega arith)) default_types

  typed_in_range : (kind : ℕ) → in_range (typed kind d) ≡ true
  typed_in_range kind = in_range_with_types (cleared d) (cleared_in_range d h) (replicate (suc last_key) kind)

-- A record with the map of another, and in its range but for that.
pub record Kept (d e : Dock) : Type 0 where
  pub map : e.map ≡ d.map
  pub rest : good_rest e.rest ≡ true

pub kept : (d e : Dock) → e.map ≡ d.map → in_range (with_map e []) ≡ true → Kept d e
kept d e map good = record { map = map; rest = in_range_rest _ good }

pub kept_in_range : (d e : Dock) → in_range d ≡ true → Kept d e → in_range e ≡ true
unfolding in_range
kept_in_range d e h k = rw (k.map, k.rest, in_range_map d h)

module _ (d : Dock) (h : good_rest d.rest ≡ true) where
  bare : in_range (with_map d []) ≡ true
  bare = alone_in_range d.rest h _ _ _ _

  -- A command, row by row.
  obeyed_kept : (byte : ℕ) → Kept d (obeyed byte d)
  unfolding fresh_with
  obeyed_kept byte =
      by_command (Kept d) byte d
      (λ f0. kept d _ refl (rate_in_range (quietened (with_map d [])) (quietened_in_range _ bare) default_rate (omega arith)))
      (λ f4. kept d _ refl (in_range_with_scanning (quietened (with_map d [])) (quietened_in_range _ bare) true))
      (λ f5. kept d _ refl (in_range_with_scanning (defaulted (with_map d [])) (defaulted_in_range _ bare) false))
      (λ f6. kept d _ refl (defaulted_in_range _ bare))
      (λ low high. kept d _ refl (typed_in_range _ bare (byte - 0xf7)))
      (λ low high. kept d _ refl (cleared_in_range _ bare))
      (λ ff. kept d _ refl (restarted_in_range _ bare))
      (λ none. kept d d refl bare)

  pub commanded_kept : (byte : ℕ) → Kept d (commanded byte d)
  unfolding commanded
  commanded_kept byte =
      let done = obeyed_kept byte in
      let good = alone_in_range _ done.rest (obeyed byte d).closed _ _ _ in
      let waits = in_range_with_waiting _ good _ (waits_well byte (takes_value byte) refl) in
      kept d _ done.map (replying_in_range _ waits (reply_to byte) (reply_short byte))
