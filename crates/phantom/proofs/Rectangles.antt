-- No columns share but those with two closed rows. Assumes nothing.
use Rattle.std.proofs.Common.{◌≡◌, ℕ, zero, suc, ◌/◌, ◌%◌, ◌<◌, ◌≤◌, Bool, true, false, List, [], ◌∷◌, sym, refl, ◌∙◌, arith, leb-false}
use borrow.Author.Tests.{lt-leb}
use lib.Bits.{bit_and, and_shr, and_mod, and_le_l, and_zero_l}
use lib.Count.{ones, ones_step}
use Rattle.basics.specs.Choice.{either}
use Rattle.phantom.specs.Phantom.{two_closed, shares_any, is_phantom, any_two_closed}

-- Two columns have no more closed rows in common than one of them has.
ones_and : (n a b : ℕ) → a ≤ n → ones (bit_and a b) ≤ ones a
ones_and zero a b h =
    let none : a ≡ 0 = omega arith in
    rw (none, and_zero_l b) (omega arith)
ones_and (suc n) a b h =
    let half : bit_and a b / 2 ≡ bit_and (a / 2) (b / 2) = and_shr a b 1 in
    let low : bit_and a b % 2 ≡ bit_and (a % 2) (b % 2) = and_mod a b 1 in
    let rest : ones (bit_and a b / 2) ≤ ones (a / 2) = rw half (ones_and n (a / 2) (b / 2) (omega arith)) in
    omega (arith, low, and_le_l (a % 2) (b % 2), ones_step a, ones_step (bit_and a b))

-- So a column with fewer than two closed rows shares with none,
few_shares : (x : ℕ) (l : List ℕ) (b : Bool) → b ≡ two_closed x → b ≡ false → false ≡ shares_any x l
unfolding shares_any
few_shares x [] b e f = refl
few_shares x (y ∷ ys) b e f =
    let few : ones x < 2 = leb-false 2 (ones x) (sym e ∙ f) in
    rw (lt-leb 2 (ones (bit_and x y)) (omega (arith, ones_and x x y (omega arith)))) (few_shares x ys b e f)

-- and a scan without a column that has two is not phantom.
pub few_phantom : (s : List ℕ) (b : Bool) → b ≡ any_two_closed s → b ≡ false → false ≡ is_phantom s
unfolding is_phantom any_two_closed
few_phantom [] b e f = refl
few_phantom (x ∷ xs) b e f = go (two_closed x) refl (any_two_closed xs) refl (sym e ∙ f) (few_phantom xs (any_two_closed xs) refl)
  where
    go : (t : Bool) → t ≡ two_closed x → (u : Bool) → u ≡ any_two_closed xs → either t u ≡ false → (any_two_closed xs ≡ false → false ≡ is_phantom xs)
        → false ≡ either (shares_any x xs) (is_phantom xs)
    go true p u q z k = cc
    go false p u q z k = rw (← few_shares x xs false p refl) (k (sym q ∙ z))
