-- Characters that are digits: what one stands for, and which in a line are. Assumes nothing.
use mathlib.Core.Path.{◌≡◌, refl}
use mathlib.Core.Bool.{Bool, true, false}
use mathlib.Core.List.{List, [], ◌∷◌}
use mathlib.Core.Logic.{◌⊎◌, inl, inr, ⊎_elim}
use Prim.Native.Nat.{ℕ, zero, suc, ◌≤◌, ◌<◌}
use native.Mathlib.Nat.{le_of_suc-le-suc, not-suc-le-zero}
use native.Mathlib.Omega.{arith}
use borrow.Author.Tests.{leb-true, le-leb, lt-leb}
use lib.Dec.{leb}
use lib.ListN.{length, get_or}
use Rattle.basics.specs.Choice.{between, either}
use Rattle.basics.proofs.Flags.{left_of_both, right_of_both}
use Rattle.digits.specs.Digits.{is_digit, value_of, all_digits}

-- A digit is one of the characters 48 to 57, or one of 65 to 70.
digit_limits : (c : ℕ) → is_digit c ≡ true → ((48 ≤ c) × (c ≤ 57)) ⊎ ((65 ≤ c) × (c ≤ 70))
digit_limits c d = go (between 48 57 c) refl d
  where
    go : (t : Bool) → between 48 57 c ≡ t → either t (between 65 70 c) ≡ true → ((48 ≤ c) × (c ≤ 57)) ⊎ ((65 ≤ c) × (c ≤ 70))
    go true e h = inl (leb-true 48 c (left_of_both (leb 48 c) (leb c 57) e), leb-true c 57 (right_of_both (leb 48 c) (leb c 57) e))
    go false e h = inr (leb-true 65 c (left_of_both (leb 65 c) (leb c 70) h), leb-true c 70 (right_of_both (leb 65 c) (leb c 70) h))

value_below_16 : (c : ℕ) → is_digit c ≡ true → value_of c < 16
value_below_16 c d =
    ⊎_elim (λ w. rw (le-leb c 57 w.1) (omega arith)) (λ w. rw (lt-leb c 57 (omega arith)) (omega arith)) (digit_limits c d)

-- Each character of a line of digits is one, and stands for a number below 16; so does the 0 that is read past the line's end.
pub digit_at : (line : List ℕ) (i : ℕ) → all_digits line ≡ true → i < length line → is_digit (get_or line i 0) ≡ true
unfolding all_digits
digit_at [] i d h = absurd (not-suc-le-zero h)
digit_at (c ∷ cs) zero d h = left_of_both (is_digit c) (all_digits cs) d
digit_at (c ∷ cs) (suc i) d h = digit_at cs i (right_of_both (is_digit c) (all_digits cs) d) (le_of_suc-le-suc h)

pub value_at_below_16 : (line : List ℕ) (i : ℕ) → all_digits line ≡ true → value_of (get_or line i 0) < 16
unfolding all_digits
value_at_below_16 [] i d = omega arith
value_at_below_16 (c ∷ cs) zero d = value_below_16 c (left_of_both (is_digit c) (all_digits cs) d)
value_at_below_16 (c ∷ cs) (suc i) d = value_at_below_16 cs i (right_of_both (is_digit c) (all_digits cs) d)
