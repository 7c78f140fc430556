-- All that is no array stays in its range, whatever byte the host sends and whatever the map is. Assumes nothing.
use mathlib.Core.Path.{◌≡◌, refl}
use mathlib.Core.Bool.{true}
use mathlib.Core.List.{List, [], ◌∷◌}
use Rattle.std.specs.Prelude.{Option}
use Prim.Native.Nat.{ℕ, ◌≤◌}
use native.Mathlib.Omega.{arith}
use lib.ListN.{length}
use Rattle.record.specs.declared.Dock.{Dock}
use Rattle.record.specs.Parts.{with_map}
use Rattle.range.specs.Range.{good_rest, in_range}
use Rattle.range.proofs.Ranges.{alone_in_range, in_range_rest, good_mode_lem, good_mode_set, good_mode_rate, in_range_mode, in_range_with_types, in_range_with_mode, in_range_with_waiting}
use Rattle.commands.proofs.InRange.{replying_in_range, set_in_range, rate_in_range, Kept, kept, kept_in_range, commanded_kept}
use Rattle.host.specs.declared.values.Asked.{Asked}
use Rattle.host.specs.Values.{with_indicators, granted, valued, took_value, took_byte}
use Rattle.host.proofs.Ladder.{by_asked, by_byte}

-- What is granted: one reply or two.
granted_in_range : (d : Dock) → in_range d ≡ true → (more : List ℕ) → length more ≤ 1 → in_range (granted more d) ≡ true
granted_in_range d h more few = replying_in_range _ (in_range_with_waiting d h 0 refl) (0xfa ∷ more) (omega arith)

module _ (d : Dock) (h : in_range d ≡ true) where
  indicators_in_range : (indicators : ℕ) → indicators ≤ 7 → in_range (with_indicators indicators d) ≡ true
  indicators_in_range indicators a =
      let g = in_range_mode d h in
      in_range_with_mode d h _ (good_mode_lem _ (good_mode_set d.rest.mode g).low (good_mode_set d.rest.mode g).high (good_mode_rate d.rest.mode g) a)

module _ (d : Dock) (h : good_rest d.rest ≡ true) where
  bare : in_range (with_map d []) ≡ true
  bare = alone_in_range d.rest h _ _ _ _

  -- A value, whatever it asks for.
  value_kept : (byte : ℕ) → Kept d (took_value byte d)
  unfolding valued
  value_kept byte =
      by_asked (λ (asked : Option Asked). Kept d (valued asked d)) d.rest.waiting byte
      (λ ed a. kept d _ refl (granted_in_range _ (indicators_in_range _ bare byte a) [] (omega arith)))
      (λ f0 low high. kept d _ refl (granted_in_range _ (set_in_range _ bare byte low high) [] (omega arith)))
      (λ f0 zero. kept d _ refl (granted_in_range _ bare (d.rest.mode.set ∷ []) (omega arith)))
      (λ f3 a. kept d _ refl (granted_in_range _ (rate_in_range _ bare byte a) [] (omega arith)))
      (λ low high key. kept d _ refl (granted_in_range _ (in_range_with_types _ bare _) [] (omega arith)))
      (kept d _ refl (replying_in_range _ bare (0xfe ∷ []) (omega arith)))

  -- Any byte.
  pub took_kept : (byte : ℕ) → Kept d (took_byte byte d)
  took_kept byte =
      by_byte (Kept d) byte d
      (λ fe. kept d _ refl (replying_in_range _ bare (d.rest.given ∷ []) (omega arith)))
      (λ other high. commanded_kept d h byte)
      (λ low. value_kept byte)

-- A record in its range stays so.
pub took_in_range : (d : Dock) → in_range d ≡ true → (byte : ℕ) → in_range (took_byte byte d) ≡ true
took_in_range d h byte = kept_in_range d _ h (took_kept d (in_range_rest d h) byte)
