-- The key that repeats is held, and no flag is up where there is no key: each move, repeat and handover keeps both. Assumes nothing.
use mathlib.Core.Path.{◌≡◌}
use mathlib.Core.Bool.{Bool, true}
use mathlib.Core.List.{List}
use Prim.Native.Nat.{ℕ, ◌<◌}
use native.Mathlib.Omega.{arith}
use lib.ListN.{length}
use Rattle.std.proofs.lemmas.Grind.{common_steps}
use Rattle.basics.specs.Lists.{all_up_to}
use Rattle.basics.proofs.Limits.{up_to_at}
use Rattle.keys.specs.Keys.{last_key}
use Rattle.keying.specs.Repeat.{repeated}
use Rattle.keying.specs.Changes.{pressed, released_with, released, turns_to}
use Rattle.keying.specs.Handover.{handed_from}
use Rattle.keying.proofs.Kept.{handed_keeps, turns_keep}
use Rattle.record.specs.declared.Mode.{Mode}
use Rattle.record.specs.Views.{Keys}
use Rattle.telling.specs.Agreeing.{NoneOutside, RepeatsHeld}
use Rattle.telling.proofs.Held.{pressed_flags, released_flags, turns_other}

abbrev Kept : Keys → Type 0
Kept k = (length k.held ≡ 144) × RepeatsHeld k

module _ (m : Mode) where
  -- The key that is pressed is held, and it or none repeats.
  pub pressed_repeats : (k : Keys) (type key : ℕ) → key < length k.held → RepeatsHeld (pressed k m type key)
  unfolding pressed
  pressed_repeats k type key fits = grind (arith, common_steps)

  -- If the key that is released repeats, none does from there on.
  pub released_repeats : (k : Keys) (type key : ℕ) → RepeatsHeld k → RepeatsHeld (released k m type key)
  unfolding released released_with
  released_repeats k type key some = grind (arith, common_steps)

  pub turns_repeat : (types map : List ℕ) → all_up_to last_key map ≡ true → (n : ℕ) (was is : List ℕ) (k : Keys)
      → length k.held ≡ 144 → RepeatsHeld k → RepeatsHeld (turns_to n m types map was is k)
  turns_repeat types map limit n was is k long some =
      let kept = turns_keep Kept m (λ k type key p. (released_flags m k type key p.0, released_repeats k type key p.1))
      (λ k type key h p. (pressed_flags m k type key p.0, pressed_repeats k type key (rw p.0 (omega arith))))
      types map limit n was is k (long, some) in
      kept.1

  pub handed_repeat : (n key : ℕ) (k : Keys) (types : List ℕ) → RepeatsHeld k → RepeatsHeld (handed_from n key k m types).keys
  handed_repeat = handed_keeps RepeatsHeld m released_repeats

  -- A repeat leaves the flags alone, and the key that repeats if it goes on.
  pub repeated_held : (k : Keys) (types : List ℕ) (quiet : Bool) → (repeated k m types quiet).held ≡ k.held
  unfolding repeated
  repeated_held k types quiet = grind arith

  pub repeated_repeats : (k : Keys) (types : List ℕ) (quiet : Bool) → RepeatsHeld k → RepeatsHeld (repeated k m types quiet)
  unfolding repeated
  repeated_repeats k types quiet some = grind arith

  -- Turned contacts put no flag up where there is no key; of a handover see Handing.
  pub turns_outside : (types map : List ℕ) → all_up_to last_key map ≡ true → (n : ℕ) (was is : List ℕ) (k : Keys)
      → NoneOutside k.held → NoneOutside (turns_to n m types map was is k).held
  turns_outside types map limit n was is k out key h = grind (arith, turns_other, up_to_at)
