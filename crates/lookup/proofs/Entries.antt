-- Each table has the keys of its bytes, computed for all of them at once. Assumes nothing.
use Prim.Native.Nat.{ℕ, ◌+◌, ◌<◌}
use mathlib.Core.Path.{◌≡◌}
use mathlib.Core.List.{List}
use borrow.Author.Tests.{eqb-true}
use lib.Dec.{T, eqb}
use lib.ListN.{get_or}
use Rattle.basics.proofs.Tables.{all_below, passed, below}
use Rattle.keys.specs.Keys.{rows}
use Rattle.lookup.specs.Lookup.{first_with, key_with}
use Rattle.lookup.specs.declared.tables.TheConstants.{ALONE_IN_SET1, BEHIND_E0_IN_SET1, ALONE_IN_SET2, BEHIND_E0_IN_SET2, ALONE_IN_SET3}

-- What was computed of all bytes holds of each.
at : (keys : List ℕ) (key : ℕ → ℕ) → T (all_below (λ byte. eqb (get_or keys byte 0) (key byte)) 256) → (byte : ℕ) → byte < 256 → get_or keys byte 0 ≡ key byte
at keys key t byte h = eqb-true _ _ (passed _ (below (λ byte. eqb (get_or keys byte 0) (key byte)) 256 t byte h))

module _ (byte : ℕ) (small : byte < 256) where
  pub alone_in_set1 : get_or ALONE_IN_SET1 byte 0 ≡ key_with 1 byte
  unfolding key_with first_with rows
  alone_in_set1 = at ALONE_IN_SET1 (λ byte. key_with 1 byte) tt byte small

  pub behind_e0_in_set1 : get_or BEHIND_E0_IN_SET1 byte 0 ≡ key_with 1 (0xe000 + byte)
  unfolding key_with first_with rows
  behind_e0_in_set1 = at BEHIND_E0_IN_SET1 (λ byte. key_with 1 (0xe000 + byte)) tt byte small

  pub alone_in_set2 : get_or ALONE_IN_SET2 byte 0 ≡ key_with 2 byte
  unfolding key_with first_with rows
  alone_in_set2 = at ALONE_IN_SET2 (λ byte. key_with 2 byte) tt byte small

  pub behind_e0_in_set2 : get_or BEHIND_E0_IN_SET2 byte 0 ≡ key_with 2 (0xe000 + byte)
  unfolding key_with first_with rows
  behind_e0_in_set2 = at BEHIND_E0_IN_SET2 (λ byte. key_with 2 (0xe000 + byte)) tt byte small

  pub alone_in_set3 : get_or ALONE_IN_SET3 byte 0 ≡ key_with 3 byte
  unfolding key_with first_with rows
  alone_in_set3 = at ALONE_IN_SET3 (λ byte. key_with 3 byte) tt byte small
