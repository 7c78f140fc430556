-- The code of a key: that at its place in the table that is laid out, and none for a number that is no key. Assumes nothing.
use mathlib.Core.Path.{◌≡◌, refl, sym}
use mathlib.Core.List.{List, [], ◌∷◌, map}
use Prim.Native.Nat.{ℕ, zero, suc, ◌-◌, ◌<◌, ◌≤◌}
use native.Mathlib.Omega.{arith}
use lib.Dec.{eqb}
use lib.ListN.{get_or, length, get_or-eq_default}
use Rattle.basics.proofs.Cases.{picked}
use Rattle.keys.specs.Keys.{Row, rows, no_row, codes_of, laid_out, row_of, row_code, code_in, last_key}

pub no_key : (k : ℕ) → k ≡ 0 → no_row ≡ row_of k
unfolding row_of
no_key k e = rw e

pub past_the_keys : (k : ℕ) → last_key < k → no_row ≡ row_of k
unfolding row_of rows
past_the_keys k h = sym (get_or-eq_default (no_row ∷ rows) no_row {n = k} h)

-- Whose row is that of no key has no code.
no_row_code : (set : ℕ) (r : Row) → no_row ≡ r → 0 ≡ row_code set r
no_row_code set r e =
    rw (← e) (picked (λ (code : ℕ). 0 ≡ code) (eqb set 1) 0 _ refl (picked (λ (code : ℕ). 0 ≡ code) (eqb set 2) 0 0 refl refl))

pub no_key_code : (set k : ℕ) → k ≡ 0 → 0 ≡ code_in set k
unfolding code_in
no_key_code set k e = no_row_code set (row_of k) (no_key k e)

pub past_code : (set k : ℕ) → last_key < k → 0 ≡ code_in set k
unfolding code_in
past_code set k h = no_row_code set (row_of k) (past_the_keys k h)

laid_row : (l : List Row) (i : ℕ) → i < length l → get_or (map codes_of l) i [] ≡ codes_of (get_or l i no_row)
laid_row [] i h = absurd (omega arith)
laid_row (r ∷ l) zero h = refl
laid_row (r ∷ l) (suc i) h = laid_row l i (omega arith)

pub rows_length : length rows ≡ last_key
unfolding rows
rows_length = refl

pub at_its_place : (t : List (List ℕ)) (k : ℕ) → t ≡ laid_out → (k ≡ 0 → ⊥) → k ≤ last_key → get_or t (k - 1) [] ≡ codes_of (row_of k)
unfolding laid_out row_of
at_its_place t zero e n h = absurd (n refl)
at_its_place t (suc k) e n h =
    let p : suc k - 1 ≡ k = omega arith in
    rw (e, p) (laid_row rows k (omega (arith, rows_length)))
