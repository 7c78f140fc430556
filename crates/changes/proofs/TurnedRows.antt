-- The rows of a column that turned, one after the other, the lowest first. Assumes nothing.
use mathlib.Core.Path.{◌≡◌, refl, sym, subst, ◌∙◌}
use mathlib.Core.Bool.{Bool, true, false}
use mathlib.Core.List.{List, [], ◌∷◌, ◌++◌}
use Prim.Native.Nat.{ℕ, zero, suc, ◌+◌, ◌*◌, ◌-◌, ◌<◌}
use native.Mathlib.Omega.{arith}
use lib.Bits.{bit_and, bit_xor, and_le_r}
use lib.Count.{count_trailing_zeros}
use lib.Dec.{T, eqb, ltb, ltb→lt}
use lib.ListN.{get_or}
use Rattle.basics.specs.Choice.{pick, both}
use Rattle.basics.specs.Lists.{same}
use Rattle.basics.proofs.Tables.{all_below, below, passed, both_left, both_right}
use Rattle.basics.proofs.Sameness.{same_is}
use Rattle.contacts.specs.Scans.{contact_in}
use Rattle.contacts.proofs.Bytes.{row_same}
use Rattle.record.specs.declared.Mode.{Mode}
use Rattle.record.specs.Views.{Keys}
use Rattle.keying.specs.Changes.{moved, turned, rows_to}

-- The rows below a row in which a byte has a 1, the lowest first, and all its rows that have one.
rows_below : ℕ → ℕ → List ℕ
rows_below zero byte = []
rows_below (suc row) byte = rows_below row byte ++ pick (eqb (contact_in byte row) 0) [] (row ∷ [])

pub rows_in : ℕ → List ℕ
rows_in byte = rows_below 8 byte

-- The contacts in these rows of a column turn, one after the other, to what they are in `is`.
pub on_rows : List ℕ → Mode → List ℕ → List ℕ → ℕ → ℕ → Keys → Keys
on_rows [] m types map column is k = k
on_rows (row ∷ rows) m types map column is k =
    on_rows rows m types map column is (moved k m types (get_or map (8 * column + row) 0) (contact_in is row))

-- The lowest row of a byte that is not 0 is one of the eight, and the byte without it has the other rows: computed for all 255.
is_of_eight : ℕ → Bool
is_of_eight byte = ltb (count_trailing_zeros 32 byte) 8

is_first : ℕ → Bool
is_first byte = same (rows_in byte) (count_trailing_zeros 32 byte ∷ rows_in (bit_and byte (byte - 1)))

in_each_byte : T (all_below (λ less. both (is_of_eight (less + 1)) (is_first (less + 1))) 255)
unfolding is_of_eight is_first rows_in rows_below count_trailing_zeros same
in_each_byte = tt

module _ (byte : ℕ) (some : 0 < byte) where
  pub fewer : bit_and byte (byte - 1) < byte
  fewer = omega (arith, and_le_r byte (byte - 1))

  module _ (small : byte < 256) where
    tested : T (both (is_of_eight byte) (is_first byte))
    tested =
        let its_own : byte - 1 + 1 ≡ byte = omega arith in
        subst (λ (n : ℕ). T (both (is_of_eight n) (is_first n))) its_own
        (below (λ less. both (is_of_eight (less + 1)) (is_first (less + 1))) 255 in_each_byte (byte - 1) (omega arith))

    pub lowest_small : count_trailing_zeros 32 byte < 8
    unfolding is_of_eight
    lowest_small = ltb→lt (count_trailing_zeros 32 byte) 8 (both_left (is_of_eight byte) (is_first byte) tested)

    rows_next : rows_in byte ≡ count_trailing_zeros 32 byte ∷ rows_in (bit_and byte (byte - 1))
    unfolding is_first
    rows_next = same_is _ _ (passed (is_first byte) (both_right (is_of_eight byte) (is_first byte) tested))

module _ (m : Mode) (types map : List ℕ) (column is : ℕ) where
  on_rows_joined : (rows others : List ℕ) (k : Keys)
      → on_rows (rows ++ others) m types map column is k ≡ on_rows others m types map column is (on_rows rows m types map column is k)
  unfolding on_rows
  on_rows_joined [] others k = refl
  on_rows_joined (row ∷ rows) others k = on_rows_joined rows others (moved k m types (get_or map (8 * column + row) 0) (contact_in is row))

  one_row : (was row : ℕ) (same : Bool) → eqb (contact_in was row) (contact_in is row) ≡ same → (k : Keys)
      → turned m types map (8 * column + row) (contact_in was row) (contact_in is row) k
      ≡ on_rows (pick same [] (row ∷ [])) m types map column is k
  unfolding turned on_rows
  one_row was row true e k = rw e
  one_row was row false e k = rw e

  -- To look at all rows is to move those that turned.
  rows_below_lem : (n was : ℕ) (k : Keys) → rows_to n m types map column was is k ≡ on_rows (rows_below n (bit_xor was is)) m types map column is k
  unfolding rows_to rows_below on_rows
  rows_below_lem zero was k = refl
  rows_below_lem (suc n) was k =
      rw (on_rows_joined (rows_below n (bit_xor was is)) _ k, ← rows_below_lem n was k, row_same was is n)
      (one_row was n (eqb (contact_in was n) (contact_in is n)) refl (rows_to n m types map column was is k))

  pub rows_are : (was : ℕ) (k : Keys) → rows_to 8 m types map column was is k ≡ on_rows (rows_in (bit_xor was is)) m types map column is k
  unfolding rows_in
  rows_are was k = rows_below_lem 8 was k

  -- The lowest of the rows left is moved, and at last none is left.
  module _ (whole before : Keys) (left : ℕ) (i : whole ≡ on_rows (rows_in left) m types map column is before) where
    pub row_moved : 0 < left → left < 256 → (after : Keys)
        → after ≡ moved before m types (get_or map (8 * column + count_trailing_zeros 32 left) 0) (contact_in is (count_trailing_zeros 32 left))
        → whole ≡ on_rows (rows_in (bit_and left (left - 1))) m types map column is after
    unfolding on_rows
    row_moved some small after e = i ∙ rw (rows_next left some small, e)

    pub rows_done : left ≡ 0 → before ≡ whole
    unfolding on_rows rows_in rows_below
    rows_done e = sym (i ∙ rw e)
