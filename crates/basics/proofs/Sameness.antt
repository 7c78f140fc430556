-- Two lists that are the same: they are equal; and as a loop with a flag finds it out. Assumes nothing.
use mathlib.Core.Path.{◌≡◌, refl, ap₂, ◌∙◌}
use mathlib.Core.Bool.{Bool, true, ◌&&◌}
use mathlib.Core.List.{List, [], ◌∷◌}
use Prim.Native.Nat.{ℕ, suc, ◌+◌, ◌≤◌, ◌<◌}
use native.Mathlib.Numerals.{add-one}
use borrow.Author.Tests.{eqb-true}
use lib.Dec.{eqb}
use lib.ListN.{length, get_or, drop, drop_of_length-le}
use lib.Seq.{drop-cons}
use Rattle.basics.specs.Choice.{both}
use Rattle.basics.specs.Lists.{same}
use Rattle.basics.proofs.Flags.{flag_tells, both_so_far, left_of_both, right_of_both}

pub same_is : (s t : List ℕ) → same s t ≡ true → s ≡ t
unfolding same
same_is [] [] e = refl
same_is [] (y ∷ ys) e = cc
same_is (x ∷ xs) [] e = cc
same_is (x ∷ xs) (y ∷ ys) e =
    ap₂ (λ (z : ℕ) (zs : List ℕ). z ∷ zs) (eqb-true x y (left_of_both (eqb x y) (same xs ys) e))
    (same_is xs ys (right_of_both (eqb x y) (same xs ys) e))

module _ (s t : List ℕ) (c : ℕ) (flag : Bool) (i : same s t ≡ both flag (same (drop c s) (drop c t))) where
  pub same_more : c < length s → c < length t → same s t ≡ both (flag && eqb (get_or s c 0) (get_or t c 0)) (same (drop (c + 1) s) (drop (c + 1) t))
  unfolding same
  same_more h g =
      i ∙ rw (add-one, drop-cons s c 0 h, drop-cons t c 0 g) (both_so_far flag (eqb (get_or s c 0) (get_or t c 0)) (same (drop (suc c) s) (drop (suc c) t)))

  pub same_end : length s ≤ c → length t ≤ c → flag ≡ same s t
  unfolding same
  same_end h g = flag_tells (same s t) flag (i ∙ rw (drop_of_length-le s {i = c} h, drop_of_length-le t {i = c} g))
