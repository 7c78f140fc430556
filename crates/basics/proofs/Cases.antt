-- A fact of what a test picks, from a fact of each where it is picked. Assumes nothing.
use mathlib.Core.Path.{◌≡◌, refl, sym, ◌∙◌}
use mathlib.Core.Bool.{Bool, true, false, false≢true}
use Prim.Native.Nat.{ℕ, zero, suc, ◌≤◌}
use native.Mathlib.Nat.{not-suc-le-zero}
use native.Mathlib.Omega.{arith}
use Rattle.basics.specs.Choice.{pick, either}

pub by_cases : {A : Type 0} (P : A → Type 0) (b : Bool) (x y : A) → (b ≡ true → P x) → (b ≡ false → P y) → P (pick b x y)
by_cases P true x y f g = f refl
by_cases P false x y f g = g refl

-- What holds of both holds of the one that is picked.
pub picked : {A : Type 0} (P : A → Type 0) (b : Bool) (x y : A) → P x → P y → P (pick b x y)
picked P b x y p q = by_cases P b x y (λ e. p) (λ e. q)

-- By cases, of two things that one test picks.
pub two_by_cases : {A B : Type 0} (P : A → B → Type 0) (b : Bool) (x y : A) (v w : B)
    → (b ≡ true → P x v) → (b ≡ false → P y w) → P (pick b x y) (pick b v w)
two_by_cases P true x y v w f g = f refl
two_by_cases P false x y v w f g = g refl

-- No test both holds and does not.
pub never : {A : Type 0} (b : Bool) → b ≡ true → b ≡ false → A
never b t f = absurd (false≢true (sym f ∙ t))

-- Of two, where the second holds one does, and where it does not, only the first can.
pub either_true : (b : Bool) → either b true ≡ true
either_true true = refl
either_true false = refl

pub either_false : (b : Bool) → either b false ≡ b
either_false true = refl
either_false false = refl

-- Where neither of two holds, nor does "one of them".
pub neither : (a b : Bool) → a ≡ false → b ≡ false → either a b ≡ false
neither a b e f = rw (e, f)

-- And the other way, first of the one and then of the other.
pub neither_first : (a b : Bool) → either a b ≡ false → a ≡ false
neither_first true b e = e
neither_first false b e = refl

pub neither_second : (a b : Bool) → either a b ≡ false → b ≡ false
neither_second true b e = cc
neither_second false b e = e

-- What holds of 1, 2 and 3 holds of every number from 1 to 3, as the sets are.
pub one_to_three : (P : ℕ → Type 0) → P 1 → P 2 → P 3 → (n : ℕ) → 1 ≤ n → n ≤ 3 → P n
one_to_three P one two three zero low high = absurd (not-suc-le-zero low)
one_to_three P one two three (suc zero) low high = one
one_to_three P one two three (suc (suc zero)) low high = two
one_to_three P one two three (suc (suc (suc zero))) low high = three
one_to_three P one two three (suc (suc (suc (suc n)))) low high = absurd (omega arith)
