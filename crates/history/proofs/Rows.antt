-- One contact, scan by scan: what it counts as and its count, from 0 to 2, hold all that the rule of three in a row needs of the scans
-- that have been. Assumes nothing.
use mathlib.Core.Path.{◌≡◌, refl, sym, ap, ◌∙◌}
use mathlib.Core.Bool.{Bool, true, false, not}
use mathlib.Core.List.{List, [], ◌∷◌, ◌++◌}
use Prim.Native.Nat.{ℕ, zero, suc, ◌≤◌, ◌<◌}
use native.Mathlib.Omega.{arith}
use native.Mathlib.Decide.{ℕ_discrete}
use borrow.Author.Tests.{ne_eqb}
use lib.Dec.{eqb}
use lib.ListN.{replicate}
use Rattle.basics.specs.Choice.{both, either}
use Rattle.contacts.specs.Counts.{next_count, next_closed}
use Rattle.history.specs.Rows.{three_first, three_in_a_row, says_closed}

-- A row of two or fewer that another scan ends counts for nothing.
module _ (this other : ℕ) (d : eqb other this ≡ false) where
  broken : (n : ℕ) → n ≤ 2 → (rest : List ℕ) → three_first this (replicate n this ++ (other ∷ rest)) ≡ false
  unfolding three_first
  broken zero h [] = refl
  broken zero h (b ∷ []) = refl
  broken zero h (b ∷ c ∷ rest) = rw d
  broken (suc zero) h [] = refl
  broken (suc zero) h (c ∷ rest) = grind arith
  broken (suc (suc zero)) h rest = grind arith
  broken (suc (suc (suc n))) h rest = absurd (omega arith)

  broken_row : (n : ℕ) → n ≤ 2 → (rest : List ℕ) → three_in_a_row this (replicate n this ++ (other ∷ rest)) ≡ three_in_a_row this rest
  unfolding three_in_a_row
  broken_row zero h rest = rw (broken 0 h rest)
  broken_row (suc n) h rest = rw (broken (suc n) h rest) (broken_row n (omega arith) rest)

broken_closed : (n : ℕ) → n ≤ 2 → (rest : List ℕ) → says_closed (replicate n 1 ++ (0 ∷ rest)) ≡ says_closed rest
unfolding says_closed
broken_closed zero h rest = rw (broken 1 0 refl 0 h rest)
broken_closed (suc n) h rest = rw (broken 1 0 refl (suc n) h rest) (broken_closed n (omega arith) rest)

-- Open scans before all others close nothing.
open_first : (n : ℕ) (rest : List ℕ) → says_closed (replicate n 0 ++ rest) ≡ says_closed rest
unfolding says_closed
open_first zero rest = refl
open_first (suc n) rest = rw (broken 1 0 refl 0 (omega arith) (replicate n 0 ++ rest)) (open_first n rest)

-- A contact that counts as closed ends closed: no three in a row show it open, or it is closed again by the scans alone.
unfoldable pub stays_closed : List ℕ → Bool
stays_closed shown = either (not (three_in_a_row 0 shown)) (says_closed shown)

-- To such a contact one closed scan more in front is nothing new.
one_more : (rest : List ℕ) → either (not (three_in_a_row 0 rest)) (says_closed (1 ∷ rest)) ≡ either (not (three_in_a_row 0 rest)) (says_closed rest)
unfolding says_closed three_first
one_more [] = refl
one_more (a ∷ []) = refl
one_more (a ∷ b ∷ rest) = go (ℕ_discrete a 1) (ℕ_discrete b 1)
  where
    again : (x y : Bool) → either x (either x y) ≡ either x y
    again true y = refl
    again false y = refl

    go : Dec (a ≡ 1) → Dec (b ≡ 1)
        → either (not (three_in_a_row 0 (a ∷ b ∷ rest))) (either (both (both (eqb a 1) (eqb b 1)) (not (three_in_a_row 0 rest))) (says_closed (a ∷ b ∷ rest)))
        ≡ either (not (three_in_a_row 0 (a ∷ b ∷ rest))) (says_closed (a ∷ b ∷ rest))
    go (yes e) (yes f) =
        rw (e, f, broken_row 0 1 refl 0 (omega arith) (1 ∷ rest), broken_row 0 1 refl 0 (omega arith) rest)
        (again (not (three_in_a_row 0 rest)) (says_closed (a ∷ b ∷ rest)))
    go (yes e) (no f) = rw (e, ne_eqb b 1 f)
    go (no e) f = rw (ne_eqb a 1 e)

broken_open : (n : ℕ) → n ≤ 2 → (rest : List ℕ) → stays_closed (replicate n 0 ++ (1 ∷ rest)) ≡ stays_closed rest
unfolding stays_closed
broken_open n h rest = grind (arith, broken_row, open_first, one_more)

-- The third in a row turns it.
third_closed : (rest : List ℕ) → says_closed (1 ∷ 1 ∷ 1 ∷ rest) ≡ stays_closed rest
unfolding says_closed three_first stays_closed
third_closed rest =
    ap (λ (b : Bool). either (not b) (says_closed (1 ∷ 1 ∷ rest))) (sym (broken_row 0 1 refl 0 (omega arith) rest))
    ∙ one_more (1 ∷ rest)
    ∙ broken_open 0 (omega arith) rest

third_open : (rest : List ℕ) → stays_closed (0 ∷ 0 ∷ 0 ∷ rest) ≡ says_closed rest
unfolding stays_closed three_in_a_row three_first
third_open rest = open_first 3 rest

-- A contact that counts as `closed`, after `count` scans in a row that showed it otherwise, ends closed: the scans in its count say so
-- together with those to come.
unfoldable pub ends_closed : ℕ → ℕ → List ℕ → Bool
ends_closed zero count rest = says_closed (replicate count 1 ++ rest)
ends_closed (suc closed) count rest = stays_closed (replicate count 0 ++ rest)

-- A scan more taken into the count changes nothing in that,
pub ends_next : (seen closed count : ℕ) → seen < 2 → closed < 2 → count ≤ 2 → (rest : List ℕ)
    → ends_closed closed count (seen ∷ rest) ≡ ends_closed (next_closed seen closed count) (next_count seen closed count) rest
unfolding ends_closed
ends_next zero zero count s c n rest = broken_closed count n rest
ends_next zero (suc zero) zero s c n rest = refl
ends_next zero (suc zero) (suc zero) s c n rest = refl
ends_next zero (suc zero) (suc (suc zero)) s c n rest = third_open rest
ends_next zero (suc zero) (suc (suc (suc count))) s c n rest = absurd (omega arith)
ends_next zero (suc (suc closed)) count s c n rest = absurd (omega arith)
ends_next (suc zero) zero zero s c n rest = refl
ends_next (suc zero) zero (suc zero) s c n rest = refl
ends_next (suc zero) zero (suc (suc zero)) s c n rest = third_closed rest
ends_next (suc zero) zero (suc (suc (suc count))) s c n rest = absurd (omega arith)
ends_next (suc zero) (suc zero) count s c n rest = broken_open count n rest
ends_next (suc zero) (suc (suc closed)) count s c n rest = absurd (omega arith)
ends_next (suc (suc seen)) closed count s c n rest = absurd (omega arith)

-- and when none is to come it is what the contact counts as.
pub ends_now : (closed count : ℕ) → closed < 2 → count ≤ 2 → eqb closed 1 ≡ ends_closed closed count []
unfolding ends_closed stays_closed says_closed three_in_a_row three_first
ends_now zero zero c n = refl
ends_now zero (suc zero) c n = refl
ends_now zero (suc (suc zero)) c n = refl
ends_now zero (suc (suc (suc count))) c n = absurd (omega arith)
ends_now (suc zero) zero c n = refl
ends_now (suc zero) (suc zero) c n = refl
ends_now (suc zero) (suc (suc zero)) c n = refl
ends_now (suc zero) (suc (suc (suc count))) c n = absurd (omega arith)
ends_now (suc (suc closed)) count c n = absurd (omega arith)
