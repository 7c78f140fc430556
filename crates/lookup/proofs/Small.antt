-- What has a code in a set is a key, or 0 for none. Assumes nothing.
use mathlib.Core.Bool.{Bool, true, false}
use mathlib.Core.List.{List, [], ◌∷◌}
use Prim.Native.Nat.{ℕ, suc, ◌+◌, ◌≤◌}
use native.Mathlib.Omega.{arith}
use lib.Dec.{eqb}
use lib.ListN.{length}
use Rattle.basics.proofs.Cases.{picked}
use Rattle.keys.specs.Keys.{Row, rows, row_code, no_code, last_key}
use Rattle.keys.proofs.Laws.{rows_length}
use Rattle.lookup.specs.Lookup.{first_with, key_with}

first_small : (set code key : ℕ) (l : List Row) → first_with set code (suc key) l ≤ key + length l
unfolding first_with
first_small set code key [] = omega arith
first_small set code key (r ∷ l) = go (eqb (row_code set r) code) (first_small set code (suc key) l)
  where
    go : (b : Bool) → first_with set code (suc (suc key)) l ≤ suc key + length l
        → elim b [ true ↦ suc key | false ↦ first_with set code (suc (suc key)) l ] ≤ key + length (r ∷ l)
    go true later = omega arith
    go false later = omega arith

pub key_with_small : (set code : ℕ) → key_with set code ≤ last_key
unfolding key_with
key_with_small set code =
    let first = first_small set code 0 rows in
    picked (λ (key : ℕ). key ≤ last_key) (eqb code no_code) _ _ (omega arith) (omega (arith, rows_length))
