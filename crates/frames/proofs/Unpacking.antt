-- What unpacking answers, by whether the number is the frame of the byte in it. Assumes nothing.
use mathlib.Core.Path.{◌≡◌, refl, sym, ap, ◌∙◌}
use mathlib.Core.Bool.{Bool, true, false}
use mathlib.Core.List.{List}
use Prim.Native.Nat.{ℕ, ◌/◌, ◌≤◌, ◌<◌}
use native.Mathlib.Omega.{arith}
use lib.Dec.{ltb}
use lib.Bits.{bit_and, and_mask}
use borrow.Author.Tests.{lt-ltb, le-ltb}
use Rattle.basics.specs.Said.{Said, accepted}
use Rattle.basics.proofs.Cases.{two_by_cases}
use Rattle.std.specs.Prelude.{Result, Ok, Err}
use Rattle.frames.specs.declared.FrameError.{FrameError}
use Rattle.frames.specs.declared.FrameError.TheVariants.{Broken, TooLarge}
use Rattle.frames.specs.Frames.{packed_of, byte_of, whole, unpacked_of, unpacked_says, unpacked_said}
use Rattle.frames.proofs.RoundTrip.{packed_is_whole, whole_is_packed}

pub too_large : (n : ℕ) → 2047 < n → Err TooLarge ≡ unpacked_of n
unfolding unpacked_of
too_large n h = simp (lt-ltb _ _ h)

-- The code takes the byte out with a mask.
module _ (n : ℕ) (small : n ≤ 2047) (frame : ℕ) (packed : frame ≡ packed_of (bit_and (n / 2) 255)) where
  own : frame ≡ packed_of (byte_of n)
  own = packed ∙ ap packed_of (and_mask (n / 2) 8)

  pub broken : (frame ≡ n → ⊥) → Err Broken ≡ unpacked_of n
  unfolding unpacked_of
  broken other = simp (le-ltb _ _ small, not_whole (whole n) (λ w. other (own ∙ sym (whole_is_packed n small w))))
    where
      not_whole : (b : Bool) → (b ≡ true → ⊥) → b ≡ false
      not_whole true f = absurd (f refl)
      not_whole false f = refl

  pub all_right : frame ≡ n → Ok (bit_and (n / 2) 255) ≡ unpacked_of n
  unfolding unpacked_of
  all_right same =
      let its-byte : whole n ≡ true = ap whole (sym same ∙ own) ∙ packed_is_whole (byte_of n) (omega arith) in
      simp (le-ltb _ _ small, its-byte, and_mask (n / 2) 8)

-- What unpacking says is what the table has of the number.
pub unpacking_says : (n : ℕ) → unpacked_says (unpacked_of n) ≡ unpacked_said n
unfolding unpacked_of unpacked_said
unpacking_says n =
    let Says : Result ℕ FrameError → Said → Type 0 = λ (u : Result ℕ FrameError) (said : Said). unpacked_says u ≡ said in
    two_by_cases Says (ltb 2047 n) _ _ _ _ (λ large. refl)
    (λ fits. two_by_cases (λ (u : Result ℕ FrameError) (values : List ℕ). Says u (accepted values)) (whole n) _ _ _ _ (λ right. refl) (λ broken. refl))
