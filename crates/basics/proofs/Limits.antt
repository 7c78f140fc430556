-- A list no entry of which is over a limit, entry by entry. Assumes nothing.
use mathlib.Core.Path.{◌≡◌}
use mathlib.Core.Bool.{true}
use mathlib.Core.List.{List, [], ◌∷◌}
use Prim.Native.Nat.{ℕ, zero, suc, ◌≤◌}
use native.Mathlib.Omega.{arith}
use borrow.Author.Tests.{leb-true}
use lib.Dec.{leb}
use lib.ListN.{get_or}
use Rattle.basics.specs.Lists.{all_up_to}
use Rattle.basics.proofs.Flags.{left_of_both, right_of_both}

pub up_to_at : (limit : ℕ) (l : List ℕ) (i : ℕ) → all_up_to limit l ≡ true → get_or l i 0 ≤ limit
unfolding all_up_to
up_to_at limit [] i e = omega arith
up_to_at limit (x ∷ xs) zero e = leb-true x limit (left_of_both (leb x limit) (all_up_to limit xs) e)
up_to_at limit (x ∷ xs) (suc i) e = up_to_at limit xs i (right_of_both (leb x limit) (all_up_to limit xs) e)
