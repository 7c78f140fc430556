-- Lists of zeros. Assumes nothing.
use mathlib.Core.Path.{◌≡◌, refl, ap₂}
use mathlib.Core.Bool.{true}
use mathlib.Core.List.{List, [], ◌∷◌}
use Prim.Native.Nat.{ℕ, zero, suc}
use native.Mathlib.Omega.{arith}
use borrow.Author.Tests.{leb-true}
use lib.Dec.{leb}
use lib.ListN.{length, get_or, replicate}
use Rattle.basics.specs.Lists.{all_up_to}
use Rattle.basics.proofs.Flags.{left_of_both, right_of_both}

-- At each place, and past the last, there is 0.
pub zeros_at : (n i : ℕ) → get_or {A = ℕ} (replicate n 0) i 0 ≡ 0
zeros_at zero i = refl
zeros_at (suc n) zero = refl
zeros_at (suc n) (suc i) = zeros_at n i

-- A list with no entry over 0 is zeros, and zeros are such a list.
pub only_zeros : (l : List ℕ) → all_up_to 0 l ≡ true → l ≡ replicate (length l) 0
unfolding all_up_to
only_zeros [] t = refl
only_zeros (x ∷ xs) t =
    let none : x ≡ 0 = omega (arith, leb-true x 0 (left_of_both (leb x 0) (all_up_to 0 xs) t)) in
    ap₂ (λ (y : ℕ) (r : List ℕ). y ∷ r) none (only_zeros xs (right_of_both (leb x 0) (all_up_to 0 xs) t))

pub zeros_up_to_0 : (n : ℕ) → all_up_to 0 (replicate n 0) ≡ true
unfolding all_up_to
zeros_up_to_0 zero = refl
zeros_up_to_0 (suc n) = zeros_up_to_0 n
