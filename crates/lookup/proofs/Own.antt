-- The key that is found for a code has that code. Assumes nothing.
use mathlib.Core.Path.{◌≡◌, refl, ap, ◌∙◌}
use mathlib.Core.Bool.{Bool, true, false}
use mathlib.Core.List.{List, [], ◌∷◌}
use Prim.Native.Nat.{ℕ, suc, ◌+◌}
use native.Mathlib.Omega.{arith}
use borrow.Author.Tests.{eqb-true}
use lib.Dec.{eqb}
use lib.ListN.{get_or}
use Rattle.basics.specs.Choice.{pick}
use Rattle.keys.specs.Keys.{Row, rows, row_code, row_of, no_row, no_code, code_in}
use Rattle.lookup.specs.Lookup.{first_with, key_with}

-- What is found among these rows, numbered from `key` on, is none or has the code.
record Among (set code key : ℕ) (l : List Row) (found : ℕ) : Type 0 where
  place : ℕ
  number : found ≡ key + place
  its_code : row_code set (get_or l place no_row) ≡ code

abbrev Own : ℕ → ℕ → ℕ → List Row → ℕ → Type 0
Own set code key l found = (found ≡ 0 → ⊥) → Among set code key l found

first_own : (set code key : ℕ) (l : List Row) → Own set code key l (first_with set code key l)
unfolding first_with
first_own set code key [] = λ some. absurd (some refl)
first_own set code key (r ∷ l) = go (eqb (row_code set r) code) refl (first_own set code (suc key) l)
  where
    go : (b : Bool) → eqb (row_code set r) code ≡ b → Own set code (suc key) l (first_with set code (suc key) l)
        → Own set code key (r ∷ l) (elim b [ true ↦ key | false ↦ first_with set code (suc key) l ])
    go true e later = λ some. record { place = 0; number = omega arith; its_code = eqb-true (row_code set r) code e }
    go false e later = λ some.
        let a = later some in
        record { place = suc a.place; number = a.number ∙ omega arith; its_code = a.its_code }

pub own_code : (set code : ℕ) → (key_with set code ≡ 0 → ⊥) → code_in set (key_with set code) ≡ code
unfolding key_with code_in row_of
own_code set code = go (eqb code no_code)
  where
    found : ℕ
    found = first_with set code 1 rows

    go : (none : Bool) → (pick none 0 found ≡ 0 → ⊥) → row_code set (get_or (no_row ∷ rows) (pick none 0 found) no_row) ≡ code
    go true some = absurd (some refl)
    go false some =
        let a = first_own set code 1 rows some in
        let number : found ≡ suc a.place = omega (arith, a.number) in
        ap (λ (key : ℕ). row_code set (get_or (no_row ∷ rows) key no_row)) number ∙ a.its_code
