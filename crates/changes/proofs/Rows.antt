-- The contacts that turned, row after row of a column, and column after column: 18 columns of 8 rows are all positions. Assumes nothing.
use mathlib.Core.Path.{◌≡◌, refl, sym, ap, ◌∙◌}
use mathlib.Core.List.{List}
use Prim.Native.Nat.{ℕ, zero, suc, ◌+◌, ◌*◌, ◌≤◌}
use native.Mathlib.Nat.{add-zero, add-suc}
use native.Mathlib.Omega.{arith}
use borrow.Author.Tests.{eq-eqb}
use lib.ListN.{get_or}
use Rattle.contacts.specs.Scans.{contact_in}
use Rattle.contacts.proofs.Pointwise.{contact_at}
use Rattle.record.specs.declared.Mode.{Mode}
use Rattle.record.specs.Views.{Keys}
use Rattle.keying.specs.Changes.{turned, turns_to, rows_to}

module _ (m : Mode) (types map : List ℕ) where
  -- In a column that is as it was nothing turned.
  rows_still : (n column byte : ℕ) (k : Keys) → rows_to n m types map column byte byte k ≡ k
  unfolding rows_to turned
  rows_still zero column byte k = refl
  rows_still (suc n) column byte k = rw (eq-eqb (contact_in byte n) (contact_in byte n) refl) (rows_still n column byte k)

  module _ (was is : List ℕ) (k : Keys) where
    -- The positions up to a row of a column are those of the columns before it, and those rows.
    turns_rows : (column row : ℕ) → row ≤ 8
        → turns_to (8 * column + row) m types map was is k
        ≡ rows_to row m types map column (get_or was column 0) (get_or is column 0) (turns_to (8 * column) m types map was is k)
    unfolding turns_to rows_to
    turns_rows column zero h = rw add-zero
    turns_rows column (suc row) h =
        rw (
          add-suc,
          contact_at was column row h,
          contact_at is column row h,
          turns_rows column row (omega arith),
        )

    turns_column : (column : ℕ) → turns_to (8 * (column + 1)) m types map was is k
        ≡ rows_to 8 m types map column (get_or was column 0) (get_or is column 0) (turns_to (8 * column) m types map was is k)
    turns_column column =
        let positions : 8 * (column + 1) ≡ 8 * column + 8 = omega arith in
        ap (λ (n : ℕ). turns_to n m types map was is k) positions ∙ turns_rows column 8 (omega arith)

    -- A column more.
    pub turns_none : k ≡ turns_to (8 * 0) m types map was is k
    unfolding turns_to
    turns_none = refl

    module _ (column : ℕ) (before : Keys) (i : before ≡ turns_to (8 * column) m types map was is k) where
      pub column_stays : (after : Keys) → get_or was column 0 ≡ get_or is column 0 → after ≡ before
          → after ≡ turns_to (8 * (column + 1)) m types map was is k
      column_stays after e f =
          f ∙ i ∙ sym (turns_column column ∙ rw e (rows_still 8 column (get_or is column 0) (turns_to (8 * column) m types map was is k)))

      pub column_turns : (after : Keys) → after ≡ rows_to 8 m types map column (get_or was column 0) (get_or is column 0) before
          → after ≡ turns_to (8 * (column + 1)) m types map was is k
      column_turns after f =
          f ∙ ap (λ (x : Keys). rows_to 8 m types map column (get_or was column 0) (get_or is column 0) x) i ∙ sym (turns_column column)
