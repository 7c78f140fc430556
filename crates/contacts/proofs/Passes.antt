-- A counted scan, column after column: what a turn of the loop over the columns makes of the contacts, and what they are at its
-- end. Assumes nothing.
use mathlib.Core.Path.{◌≡◌, refl, sym, ap, ◌∙◌}
use mathlib.Core.Bool.{Bool, true}
use mathlib.Core.List.{List}
use Prim.Native.Nat.{ℕ, ◌+◌, ◌*◌, ◌≤◌, ◌<◌}
use native.Mathlib.Nat.{le_antisymm}
use native.Mathlib.Omega.{arith}
use borrow.Author.Tests.{eq-eqb}
use lib.ListN.{length, get_or, set}
use lib.Seq.{set-get_or}
use Rattle.basics.specs.Lists.{map_from, all_up_to, same}
use Rattle.basics.proofs.Flags.{left_of_both, right_of_both}
use Rattle.basics.proofs.Limits.{up_to_at}
use Rattle.basics.proofs.Maps.{map_from-is}
use Rattle.basics.proofs.Sameness.{same_is}
use Rattle.contacts.specs.Counts.{Contacts, next_count, next_closed, packed, count_at, closed_at, counted_of, at_rest, renewed, column_counts, column_closed}
use Rattle.contacts.specs.Scans.{contact_in, contact}
use Rattle.contacts.proofs.Pointwise.{contact_at}
use Rattle.contacts.proofs.Bytes.{packed_rows, packed_same}
use Rattle.contacts.proofs.Renewals.{renewed_later, renewed_next, renewed_join, renewed_all}

-- A contact that is seen as it counts.
same_count : (seen closed count : ℕ) → seen ≡ closed → 0 ≡ next_count seen closed count
same_count seen closed count e = rw (eq-eqb seen closed e)

same_closed : (seen closed count : ℕ) → seen ≡ closed → closed ≡ next_closed seen closed count
same_closed seen closed count e = rw (eq-eqb seen closed e)

module _ (k : Contacts) (scan : List ℕ) where
  -- The new column and the new count at a place.
  abbrev new_column : ℕ → ℕ → ℕ
  new_column column byte = packed (λ row. closed_at k scan (8 * column + row))

  abbrev new_count : ℕ → ℕ → ℕ
  new_count position count = count_at k scan position

  -- The columns below n counted, the others as they were.
  unfoldable pub counted_to : ℕ → Contacts
  counted_to n = record { closed = renewed new_column 0 n k.closed; counts = renewed new_count 0 (8 * n) k.counts }

  pub counted_none : k ≡ counted_to 0
  unfolding counted_to renewed
  counted_none = refl

  -- A column that shows what counts.
  module _ (c : ℕ) (e : get_or scan c 0 ≡ get_or k.closed c 0) (b : get_or scan c 0 < 256) where
    still_column : (byte : ℕ) → get_or k.closed c 0 ≡ new_column c byte
    still_column byte =
        sym (packed_rows (get_or k.closed c 0) (rw e at b))
        ∙ packed_same (contact_in (get_or k.closed c 0)) (λ row. closed_at k scan (8 * c + row))
        (λ r h. rw (contact_at scan c r h, contact_at k.closed c r h)
        (same_closed (contact_in (get_or scan c 0) r) (contact_in (get_or k.closed c 0) r) (get_or k.counts (8 * c + r) 0)
        (ap (λ (x : ℕ). contact_in x r) e)))

    still_count : (row : ℕ) → row < 8 → 0 ≡ count_at k scan (8 * c + row)
    still_count r h =
        rw (contact_at scan c r h, contact_at k.closed c r h)
        (same_count (contact_in (get_or scan c 0) r) (contact_in (get_or k.closed c 0) r) (get_or k.counts (8 * c + r) 0)
        (ap (λ (x : ℕ). contact_in x r) e))

  -- One more column: the contacts are `before` ahead of it, `after` behind it.
  module _ (c : ℕ) (before after : Contacts) (i : before ≡ counted_to c) where
    closed_so_far : before.closed ≡ renewed new_column 0 c k.closed
    unfolding counted_to
    closed_so_far = ap (λ (x : Contacts). x.closed) i

    counts_so_far : before.counts ≡ renewed new_count 0 (8 * c) k.counts
    unfolding counted_to
    counts_so_far = ap (λ (x : Contacts). x.counts) i

    -- What is still to come is as it was.
    closed_kept : get_or before.closed c 0 ≡ get_or k.closed c 0
    closed_kept = rw closed_so_far (renewed_later new_column 0 c k.closed c (omega arith))

    counts_kept : (row : ℕ) → get_or before.counts (8 * c + row) 0 ≡ get_or k.counts (8 * c + row) 0
    counts_kept row = rw counts_so_far (renewed_later new_count 0 (8 * c) k.counts (8 * c + row) (omega arith))

    next : after.closed ≡ renewed new_column 0 (c + 1) k.closed
        → after.counts ≡ renewed new_count 0 (8 * c + 8) k.counts → after ≡ counted_to (c + 1)
    unfolding counted_to
    next f g =
        let n : 8 * c + 8 ≡ 8 * (c + 1) = omega arith in
        λ t. record { closed = f t; counts = (g ∙ ap (λ (m : ℕ). renewed new_count 0 m k.counts) n) t }

    pub still_more : get_or scan c 0 ≡ get_or before.closed c 0 → get_or scan c 0 < 256
        → after.closed ≡ before.closed → after.counts ≡ renewed (λ row count. 0) (8 * c) 8 before.counts → after ≡ counted_to (c + 1)
    still_more e b f g =
        let s : get_or scan c 0 ≡ get_or k.closed c 0 = e ∙ closed_kept in
        next
        (f ∙ sym (set-get_or before.closed c 0)
        ∙ renewed_next new_column c k.closed before.closed (get_or before.closed c 0) closed_so_far (closed_kept ∙ still_column c s b 0))
        (g ∙ renewed_join new_count (λ row count. 0) (8 * c) k.counts before.counts counts_so_far 8 (λ r h. still_count c s b r h))

    pub stirred_more : (v : ℕ) → v ≡ column_closed c (get_or scan c 0) (get_or before.closed c 0) before.counts
        → after.closed ≡ set before.closed c v
        → after.counts ≡ column_counts c (get_or scan c 0) (get_or before.closed c 0) before.counts → after ≡ counted_to (c + 1)
    stirred_more v e f g =
        next
        (f ∙ renewed_next new_column c k.closed before.closed v closed_so_far
        (e ∙ packed_same
        (λ row. next_closed (contact_in (get_or scan c 0) row) (contact_in (get_or before.closed c 0) row) (get_or before.counts (8 * c + row) 0))
        (λ row. closed_at k scan (8 * c + row))
        (λ r h. rw (contact_at scan c r h, contact_at k.closed c r h, closed_kept, counts_kept r))))
        (g ∙ renewed_join new_count
        (λ row count. next_count (contact_in (get_or scan c 0) row) (contact_in (get_or before.closed c 0) row) count)
        (8 * c) k.counts before.counts counts_so_far 8
        (λ r h. rw (contact_at scan c r h, contact_at k.closed c r h, closed_kept)))

  -- At rest nothing changes.
  pub rest_stays : ((i : ℕ) → get_or scan i 0 < 256) → (b : Bool) → b ≡ at_rest k scan → b ≡ true → k ≡ counted_of k scan
  unfolding counted_of at_rest
  rest_stays h b e t =
      let shown : scan ≡ k.closed = same_is scan k.closed (left_of_both (same scan k.closed) (all_up_to 0 k.counts) (sym e ∙ t)) in
      let none : all_up_to 0 k.counts ≡ true = right_of_both (same scan k.closed) (all_up_to 0 k.counts) (sym e ∙ t) in
      let f : k.closed ≡ map_from new_column 0 k.closed =
      map_from-is new_column 0 0 k.closed k.closed refl
      (λ c q. still_column c (ap (λ (s : List ℕ). get_or s c 0) shown) (h c) (get_or k.closed c 0)) in
      let g : k.counts ≡ map_from new_count 0 k.counts =
      map_from-is new_count 0 0 k.counts k.counts refl
      (λ p q. (omega (arith, up_to_at 0 k.counts p none))
      ∙ same_count (contact scan p) (contact k.closed p) (get_or k.counts p 0) (ap (λ (s : List ℕ). contact s p) shown)) in
      λ t. record { closed = f t; counts = g t }

  module _ (l : length k.closed ≡ 18) (m : length k.counts ≡ 144) where
    -- All columns.
    pub counted_all_lem : (c : ℕ) (e : Contacts) → c ≤ 18 → 18 ≤ c → e ≡ counted_to c → e ≡ counted_of k scan
    unfolding counted_to counted_of
    counted_all_lem c e a b i =
        let n : c ≡ length k.closed = le_antisymm a b ∙ sym l in
        let p : 8 * c ≡ length k.counts = omega arith in
        i ∙ (λ t. record {
          closed = (ap (λ (x : ℕ). renewed new_column 0 x k.closed) n ∙ renewed_all new_column k.closed) t;
          counts = (ap (λ (x : ℕ). renewed new_count 0 x k.counts) p ∙ renewed_all new_count k.counts) t;
        })
