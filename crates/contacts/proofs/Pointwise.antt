-- A counted scan position by position: each contact and each count becomes what the rule says of it alone. Assumes nothing.
use mathlib.Core.Path.{◌≡◌, refl, ap, ◌∙◌}
use mathlib.Core.Bool.{Bool, true, false}
use mathlib.Core.List.{List}
use Prim.Native.Nat.{ℕ, ◌+◌, ◌*◌, ◌/◌, ◌%◌, ◌≤◌, ◌<◌}
use native.Mathlib.Omega.{arith}
use borrow.Author.Tests.{ltb-true}
use lib.Dec.{eqb, ltb}
use lib.ListN.{length, get_or}
use Rattle.basics.specs.Choice.{pick}
use Rattle.basics.proofs.Maps.{length-map_from, get_or-map_from}
use Rattle.contacts.specs.Counts.{Contacts, next_count, next_closed, packed, count_at, closed_at, counted_of}
use Rattle.contacts.specs.Scans.{contact_in, contact}
use Rattle.contacts.proofs.Bytes.{packed_row}

-- A contact is 0 or 1.
pub contact_small : (scan : List ℕ) (position : ℕ) → contact scan position < 2
unfolding contact
contact_small scan position = omega arith

-- The contact at a position, by its column and row.
pub contact_at : (scan : List ℕ) (column row : ℕ) → row < 8 → contact scan (8 * column + row) ≡ contact_in (get_or scan column 0) row
unfolding contact
contact_at scan column row h =
    let c : (8 * column + row) / 8 ≡ column = omega arith in
    let r : (8 * column + row) % 8 ≡ row = omega arith in
    rw (c, r)

-- A contact counts as what it counted as, or as what was seen.
pub next_closed_small : (seen closed count : ℕ) → seen < 2 → closed < 2 → next_closed seen closed count < 2
next_closed_small seen closed count s d = go (eqb seen closed) (ltb count 2)
  where
    go : (e l : Bool) → pick e closed (pick l closed seen) < 2
    go true l = d
    go false true = d
    go false false = s

-- A count goes up from 0 or 1 only.
pub next_count_small : (seen closed count : ℕ) → next_count seen closed count ≤ 2
next_count_small seen closed count = go (eqb seen closed) (ltb count 2) refl
  where
    go : (e l : Bool) → ltb count 2 ≡ l → pick e 0 (pick l (count + 1) 0) ≤ 2
    go true l t = omega arith
    go false true t = omega (arith, ltb-true count 2 t)
    go false false t = omega arith

module _ (k : Contacts) (scan : List ℕ) where
  pub closed_length : length (counted_of k scan).closed ≡ length k.closed
  unfolding counted_of
  closed_length = length-map_from (λ column byte. packed (λ row. closed_at k scan (8 * column + row))) 0 k.closed

  pub counts_length : length (counted_of k scan).counts ≡ length k.counts
  unfolding counted_of
  counts_length = length-map_from (λ position count. count_at k scan position) 0 k.counts

  closed_at_small : (position : ℕ) → closed_at k scan position < 2
  closed_at_small position =
      next_closed_small (contact scan position) (contact k.closed position) (get_or k.counts position 0)
      (contact_small scan position) (contact_small k.closed position)

  -- A column, and a count.
  column_new : (column : ℕ) → column < length k.closed
      → get_or (counted_of k scan).closed column 0 ≡ packed (λ row. closed_at k scan (8 * column + row))
  unfolding counted_of
  column_new column h = get_or-map_from (λ column byte. packed (λ row. closed_at k scan (8 * column + row))) 0 0 k.closed column h

  count_new : (position : ℕ) → position < length k.counts → get_or (counted_of k scan).counts position 0 ≡ count_at k scan position
  unfolding counted_of
  count_new position h = get_or-map_from (λ position count. count_at k scan position) 0 0 k.counts position h

  module _ (l : length k.closed ≡ 18) (position : ℕ) (h : position < 144) where
    pub closed_pointwise : contact (counted_of k scan).closed position ≡ closed_at k scan position
    unfolding contact
    closed_pointwise =
        let place : 8 * (position / 8) + position % 8 ≡ position = omega arith in
        rw (column_new (position / 8) (omega arith))
        (packed_row (λ row. closed_at k scan (8 * (position / 8) + row)) (λ row. closed_at_small (8 * (position / 8) + row))
        (position % 8) (omega arith)
        ∙ ap (closed_at k scan) place)

  module _ (l : length k.counts ≡ 144) (position : ℕ) (h : position < 144) where
    pub counts_pointwise : get_or (counted_of k scan).counts position 0 ≡ count_at k scan position
    counts_pointwise = count_new position (omega arith)
