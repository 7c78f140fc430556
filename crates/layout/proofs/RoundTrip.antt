-- The bytes of the record in bytes are these bytes, and a record's bytes are that record. Assumes nothing.
use mathlib.Core.Path.{◌≡◌, refl, sym, ap, ◌∙◌}
use mathlib.Core.Bool.{Bool, true, false}
use mathlib.Core.List.{List, [], ◌∷◌, ◌++◌}
use Prim.Native.Nat.{ℕ, zero, suc, ◌+◌, ◌≤◌}
use native.Mathlib.Omega.{arith}
use borrow.Author.Tests.{eq-eqb, le-leb}
use lib.Dec.{eqb}
use lib.ListN.{length, get_or, take, drop, drop_of_length-le, take-append-drop, length-append}
use lib.Seq.{drop-drop, drop-cons, take_at, drop-append-add, get_or-append-add}
use Rattle.keys.specs.Keys.{last_key}
use Rattle.record.specs.declared.Dock.{Dock}
use Rattle.record.specs.Sized.{IsSized}
use Rattle.range.specs.Range.{in_range}
use Rattle.layout.specs.Layout.{types_at, closed_at, counts_at, held_at, queue_at, small_at, size, is_record, part, small, map_in, types_in, closed_in, counts_in, held_in, flag_of, rest_in, record_in, small_of, rest_bytes, bytes_of}
use Rattle.layout.proofs.Records.{record_size, scanning_small, handover_small}

-- A flag.
flag_same : (n : ℕ) → n ≤ 1 → flag_of (eqb n 1) ≡ n
flag_same zero h = refl
flag_same (suc zero) h = refl
flag_same (suc (suc n)) h = absurd (omega arith)

-- A part and what is behind it.
part_more : (l : List ℕ) (at n : ℕ) → part at n l ++ drop (at + n) l ≡ drop at l
part_more l at n = ap (λ (r : List ℕ). take n (drop at l) ++ r) (sym (drop-drop n at l)) ∙ take-append-drop n (drop at l)

-- The last fourteen bytes,
small_in : (l : List ℕ) → is_record l ≡ true → small_of (rest_in l) ≡ drop small_at l
unfolding small_of rest_in
small_in l h =
    let s = record_size l h in
    rw (
      flag_same (small 10 l) (scanning_small l h),
      flag_same (small 12 l) (handover_small l h),
      drop-cons l (small_at + 0) 0 (omega (arith, s)),
      drop-cons l (small_at + 1) 0 (omega (arith, s)),
      drop-cons l (small_at + 2) 0 (omega (arith, s)),
      drop-cons l (small_at + 3) 0 (omega (arith, s)),
      drop-cons l (small_at + 4) 0 (omega (arith, s)),
      drop-cons l (small_at + 5) 0 (omega (arith, s)),
      drop-cons l (small_at + 6) 0 (omega (arith, s)),
      drop-cons l (small_at + 7) 0 (omega (arith, s)),
      drop-cons l (small_at + 8) 0 (omega (arith, s)),
      drop-cons l (small_at + 9) 0 (omega (arith, s)),
      drop-cons l (small_at + 10) 0 (omega (arith, s)),
      drop-cons l (small_at + 11) 0 (omega (arith, s)),
      drop-cons l (small_at + 12) 0 (omega (arith, s)),
      drop-cons l (small_at + 13) 0 (omega (arith, s)),
      drop_of_length-le l {i = size} (omega (arith, s)),
    )

-- the rest, and all.
rest_in_lem : (l : List ℕ) → is_record l ≡ true → rest_bytes (rest_in l) ≡ drop queue_at l
unfolding rest_bytes rest_in
rest_in_lem l h = ap (λ (r : List ℕ). part queue_at 16 l ++ r) (small_in l h) ∙ part_more l queue_at 16

pub bytes_in : (l : List ℕ) → is_record l ≡ true → bytes_of (record_in l) ≡ l
unfolding bytes_of
bytes_in l h =
    rw (rest_in_lem l h, part_more l held_at 144, part_more l counts_at 144, part_more l closed_at 18, part_more l types_at (suc last_key), part_more l 0 144)

-- What lies behind bytes.
part_past : (x y : List ℕ) (n k m : ℕ) → length x ≡ n → part (n + k) m (x ++ y) ≡ part k m y
part_past x y n k m h = rw (← h, drop-append-add x y k)

get_d_past : (x y : List ℕ) (n k : ℕ) → length x ≡ n → get_or (x ++ y) (n + k) 0 ≡ get_or y k 0
get_d_past x y n k h = rw (← h, get_or-append-add x y k 0)

flag_back : (b : Bool) → eqb (flag_of b) 1 ≡ b
flag_back true = refl
flag_back false = refl

flag_small : (b : Bool) → flag_of b ≤ 1
flag_small true = omega arith
flag_small false = omega arith

three : (l : List ℕ) → length l ≡ 3 → get_or l 0 0 ∷ get_or l 1 0 ∷ get_or l 2 0 ∷ [] ≡ l
three [] h = absurd (omega (arith, h))
three (a ∷ []) h = absurd (omega (arith, h))
three (a ∷ b ∷ []) h = absurd (omega (arith, h))
three (a ∷ b ∷ c ∷ []) h = refl
three (a ∷ b ∷ c ∷ e ∷ l) h = absurd (omega (arith, h))

module _ (d : Dock) (z : IsSized d) where
  map_at : map_in (bytes_of d) ≡ d.map
  unfolding bytes_of
  map_at = take_at d.map _ 144 z.map

  types_at_lem : types_in (bytes_of d) ≡ d.types
  unfolding bytes_of
  types_at_lem = part_past d.map _ 144 0 (suc last_key) z.map ∙ take_at d.types _ (suc last_key) z.types

  closed_at_lem : closed_in (bytes_of d) ≡ d.closed
  unfolding bytes_of
  closed_at_lem =
      part_past d.map _ 144 (suc last_key) 18 z.map ∙ part_past d.types _ (suc last_key) 0 18 z.types ∙ take_at d.closed _ 18 z.closed

  counts_at_lem : counts_in (bytes_of d) ≡ d.counts
  unfolding bytes_of
  counts_at_lem =
      part_past d.map _ 144 (suc last_key + 18) 144 z.map ∙ part_past d.types _ (suc last_key) 18 144 z.types
      ∙ part_past d.closed _ 18 0 144 z.closed ∙ take_at d.counts _ 144 z.counts

  held_at_lem : held_in (bytes_of d) ≡ d.held
  unfolding bytes_of
  held_at_lem =
      part_past d.map _ 144 (suc last_key + 162) 144 z.map ∙ part_past d.types _ (suc last_key) 162 144 z.types
      ∙ part_past d.closed _ 18 144 144 z.closed ∙ part_past d.counts _ 144 0 144 z.counts
      ∙ take_at d.held _ 144 z.held

  queue_at_lem : part queue_at 16 (bytes_of d) ≡ d.rest.outgoing.queue.bytes
  unfolding bytes_of rest_bytes
  queue_at_lem =
      part_past d.map _ 144 (suc last_key + 306) 16 z.map ∙ part_past d.types _ (suc last_key) 306 16 z.types
      ∙ part_past d.closed _ 18 288 16 z.closed ∙ part_past d.counts _ 144 144 16 z.counts
      ∙ part_past d.held _ 144 0 16 z.held ∙ take_at d.rest.outgoing.queue.bytes _ 16 z.queue

  small_at_lem : (j : ℕ) → get_or (bytes_of d) (144 + (suc last_key + (18 + (144 + (144 + (16 + j)))))) 0 ≡ get_or (small_of d.rest) j 0
  unfolding bytes_of rest_bytes
  small_at_lem j =
      get_d_past d.map _ 144 _ z.map ∙ get_d_past d.types _ (suc last_key) _ z.types
      ∙ get_d_past d.closed _ 18 _ z.closed ∙ get_d_past d.counts _ 144 _ z.counts
      ∙ get_d_past d.held _ 144 _ z.held ∙ get_d_past d.rest.outgoing.queue.bytes _ 16 j z.queue

  bytes_size : length (bytes_of d) ≡ size
  unfolding bytes_of rest_bytes small_of
  bytes_size = simp (length-append, z.map, z.types, z.closed, z.counts, z.held, z.queue)

  rest_at : rest_in (bytes_of d) ≡ d.rest
  unfolding rest_in small_of
  rest_at =
      rw (
        queue_at_lem,
        small_at_lem 0,
        small_at_lem 1,
        small_at_lem 2,
        small_at_lem 3,
        small_at_lem 4,
        small_at_lem 5,
        small_at_lem 6,
        small_at_lem 7,
        small_at_lem 8,
        small_at_lem 9,
        small_at_lem 10,
        small_at_lem 11,
        small_at_lem 12,
        small_at_lem 13,
        three d.rest.replies.bytes z.replies,
        flag_back d.rest.scanning,
        flag_back d.rest.handover,
      )

  pub record_back : record_in (bytes_of d) ≡ d
  record_back = rw (map_at, types_at_lem, closed_at_lem, counts_at_lem, held_at_lem, rest_at)

  -- They are a record, if it is in its range.
  pub bytes_are_record : in_range d ≡ true → is_record (bytes_of d) ≡ true
  unfolding is_record small_of
  bytes_are_record h =
      rw (
        eq-eqb (length (bytes_of d)) size bytes_size,
        le-leb (small 10 (bytes_of d)) 1 (rw (small_at_lem 10) (flag_small d.rest.scanning)),
        le-leb (small 12 (bytes_of d)) 1 (rw (small_at_lem 12) (flag_small d.rest.handover)),
        record_back,
        h,
      )
