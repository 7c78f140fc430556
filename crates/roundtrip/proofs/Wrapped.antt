-- The overrun mark reads as overrun wherever it stands, and no other byte does; the wrapping codes read as wrapping, and no others do.
-- Assumes nothing.
use mathlib.Core.Path.{◌≡◌, refl}
use mathlib.Core.Bool.{Bool, true, false, not}
use mathlib.Core.List.{[], ◌∷◌, ◌++◌}
use Prim.Native.Nat.{ℕ, ◌<◌, ◌≤◌}
use native.Mathlib.Omega.{arith}
use lib.Dec.{T}
use Rattle.basics.specs.Choice.{pick, both}
use Rattle.basics.specs.Lists.{same}
use Rattle.basics.proofs.Cases.{one_to_three}
use Rattle.basics.proofs.Tables.{all_below, below, both_left, both_right}
use Rattle.keys.specs.Keys.{rows, row_of, code_in}
use Rattle.lookup.specs.Lookup.{key_with, first_with}
use Rattle.reader.specs.States.{beginnings, seen}
use Rattle.reader.specs.Reader.{read_byte, in_set1, in_set2, in_set3, heard}
use Rattle.roundtrip.specs.NoKey.{is_mark, wrappings, among, is_overrun, is_wrapping}

-- Two tests come to the same.
alike : Bool → Bool → Bool
alike a b = pick a b (not b)

alike_is : (a b : Bool) → T (alike a b) → a ≡ b
unfolding alike
alike_is true true t = refl
alike_is true false t = absurd t
alike_is false true t = absurd t
alike_is false false t = refl

-- At a byte in a state of a set: the mark and nothing else is an overrun, and the wrapping codes and no others wrap.
mark_at : ℕ → ℕ → ℕ → Bool
mark_at set state byte = alike (is_overrun (read_byte set state byte).event) (is_mark set byte)

wrap_at : ℕ → ℕ → ℕ → Bool
wrap_at set state byte = alike (is_wrapping (read_byte set state byte).event) (among (seen state ++ byte ∷ []) (wrappings set))

fine_at : ℕ → ℕ → ℕ → Bool
fine_at set state byte = both (mark_at set state byte) (wrap_at set state byte)

fine : ℕ → Bool
fine set = all_below (λ state. all_below (fine_at set state) 256) 15

-- In all states and at all bytes, computed set by set.
fine_1 : T (fine 1)
unfolding fine fine_at mark_at wrap_at alike wrappings among same beginnings seen rows row_of code_in key_with first_with read_byte in_set1 heard
fine_1 = tt

fine_2 : T (fine 2)
unfolding fine fine_at mark_at wrap_at alike wrappings among same beginnings seen rows row_of code_in key_with first_with read_byte in_set2 heard
fine_2 = tt

fine_3 : T (fine 3)
unfolding fine fine_at mark_at wrap_at alike wrappings among same beginnings seen rows row_of code_in key_with first_with read_byte in_set3
fine_3 = tt

at : (set state byte : ℕ) → 1 ≤ set → set ≤ 3 → state ≤ 14 → byte < 256 → T (fine_at set state byte)
unfolding fine
at set state byte low high s b =
    one_to_three (λ (n : ℕ). T (fine_at n state byte)) (from 1 fine_1) (from 2 fine_2) (from 3 fine_3) set low high
  where
    from : (n : ℕ) → T (fine n) → T (fine_at n state byte)
    from n t = below (fine_at n state) 256 (below (λ st. all_below (fine_at n st) 256) 15 t state (omega arith)) byte b

module _ (set state byte : ℕ) (low : 1 ≤ set) (high : set ≤ 3) (s : state ≤ 14) (b : byte < 256) where
  pub overrun_at_the_mark : is_overrun (read_byte set state byte).event ≡ is_mark set byte
  unfolding fine_at mark_at
  overrun_at_the_mark =
      alike_is (is_overrun (read_byte set state byte).event) (is_mark set byte)
      (both_left (mark_at set state byte) (wrap_at set state byte) (at set state byte low high s b))

  pub wrapping_by_its_codes : is_wrapping (read_byte set state byte).event ≡ among (seen state ++ byte ∷ []) (wrappings set)
  unfolding fine_at wrap_at
  wrapping_by_its_codes =
      alike_is (is_wrapping (read_byte set state byte).event) (among (seen state ++ byte ∷ []) (wrappings set))
      (both_right (mark_at set state byte) (wrap_at set state byte) (at set state byte low high s b))
