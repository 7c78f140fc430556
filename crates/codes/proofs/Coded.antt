-- A key has a code in a set if the table has one for it there; where it has none it sends nothing and does not repeat. Assumes nothing.
use mathlib.Core.Path.{◌≡◌, refl}
use mathlib.Core.Bool.{Bool, false, not}
use mathlib.Core.List.{[]}
use Prim.Native.Nat.{ℕ, zero, suc, ◌≤◌}
use native.Mathlib.Nat.{not-suc-le-zero}
use native.Mathlib.Omega.{arith}
use lib.Dec.{eqb}
use Rattle.basics.proofs.Cases.{one_to_three}
use Rattle.basics.proofs.Flags.{both_false}
use Rattle.basics.proofs.Tables.{values_below, alike_below}
use Rattle.keys.specs.Keys.{rows, row_of, code_in, no_code, last_key}
use Rattle.codes.specs.declared.Action.{Action}
use Rattle.codes.specs.Codes.{is_pause, has_code, may_repeat, encode}

in_table : ℕ → ℕ → Bool
in_table set key = not (eqb (code_in set key) no_code)

-- All keys, computed set by set.
Holds : ℕ → Type 0
Holds set = values_below (λ (k : ℕ). has_code set (suc k)) last_key ≡ values_below (λ (k : ℕ). in_table set (suc k)) last_key

holds_1 : Holds 1
unfolding Holds in_table code_in row_of rows
holds_1 = refl

holds_2 : Holds 2
unfolding Holds in_table code_in row_of rows
holds_2 = refl

holds_3 : Holds 3
unfolding Holds in_table code_in row_of rows
holds_3 = refl

pub coded_by_table : (set key : ℕ) → 1 ≤ set → set ≤ 3 → 1 ≤ key → key ≤ last_key → has_code set key ≡ not (eqb (code_in set key) no_code)
unfolding in_table Holds
coded_by_table set zero low high one last = absurd (not-suc-le-zero one)
coded_by_table set (suc k) low high one last =
    one_to_three (λ (n : ℕ). has_code n (suc k) ≡ in_table n (suc k)) (from 1 holds_1) (from 2 holds_2) (from 3 holds_3) set low high
  where
    from : (n : ℕ) → Holds n → has_code n (suc k) ≡ in_table n (suc k)
    from n holds = alike_below (λ (k : ℕ). has_code n (suc k)) (λ (k : ℕ). in_table n (suc k)) last_key holds k (omega arith)

module _ (set key type : ℕ) (none : has_code set key ≡ false) where
  pub uncoded_none : (action : Action) (modifiers : ℕ) (lock : Bool) → encode set key action type modifiers lock ≡ []
  unfolding encode
  uncoded_none action modifiers lock = rw none

  pub uncoded_still : may_repeat set key type ≡ false
  unfolding may_repeat
  uncoded_still = rw none (both_false (not (is_pause key)))
