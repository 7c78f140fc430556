-- What bytes give that are a record, and the tests by which the code finds it out. Assumes nothing.
use mathlib.Core.Path.{◌≡◌, refl}
use mathlib.Core.Bool.{Bool, true, false, ◌&&◌, and_assoc}
use mathlib.Core.List.{List, [], ◌∷◌}
use Prim.Native.Nat.{ℕ, suc, ◌+◌, ◌≤◌}
use native.Mathlib.Omega.{arith}
use borrow.Author.Tests.{leb-true, eqb-true, eq-eqb, ne_eqb}
use lib.Dec.{leb}
use lib.ListN.{length, drop, length-drop}
use lib.Seq.{length-take-le, drop-cons}
use Rattle.std.specs.Array.{IsWholeChunk}
use Rattle.basics.proofs.Flags.{left_of_both, right_of_both}
use Rattle.basics.specs.Lists.{all_up_to}
use Rattle.keys.specs.Keys.{last_key}
use Rattle.record.specs.Sized.{IsSized}
use Rattle.range.specs.Range.{good_rest, in_range}
use Rattle.layout.specs.Layout.{types_at, closed_at, counts_at, held_at, queue_at, size, part, small_at, small, map_in, rest_in, record_in, is_record}

module _ (l : List ℕ) (h : is_record l ≡ true) where
  pub record_size : length l ≡ size
  unfolding is_record
  record_size = eqb-true (length l) size (search left_of_both)

  pub record_in_range : in_range (record_in l) ≡ true
  unfolding is_record
  record_in_range = search (left_of_both, right_of_both)

  pub scanning_small : small 10 l ≤ 1
  unfolding is_record
  scanning_small = leb-true (small 10 l) 1 (search (left_of_both, right_of_both))

  pub handover_small : small 12 l ≤ 1
  unfolding is_record
  handover_small = leb-true (small 12 l) 1 (search (left_of_both, right_of_both))

pub another_size : (l : List ℕ) → (length l ≡ size → ⊥) → is_record l ≡ false
unfolding is_record
another_size l n = rw (ne_eqb (length l) size n)

-- The tests of all the bytes tell whether they are a record.
module _ (l b : List ℕ) (whole : IsWholeChunk l b size) (map rest : Bool) (m : map ≡ all_up_to last_key (map_in b)) (r : rest ≡ good_rest (rest_in b)) where
  pub joined_record : (leb (small 10 b) 1 && leb (small 12 b) 1 && map && rest) ≡ is_record l
  unfolding is_record in_range
  joined_record = rw (eq-eqb (length l) size whole.long, m, r, whole.same) (simp and_assoc)

-- The replies are three of the small parts.
pub three_replies : (l : List ℕ) → length l ≡ size → part (small_at + 6) 3 l ≡ small 6 l ∷ small 7 l ∷ small 8 l ∷ []
three_replies l s =
    rw (
      drop-cons l (small_at + 6) 0 (omega (arith, s)),
      drop-cons l (small_at + 7) 0 (omega (arith, s)),
      drop-cons l (small_at + 8) 0 (omega (arith, s)),
    )

-- Every part of bytes that are a record has its size.
part_size : (l : List ℕ) (at n : ℕ) → at + n ≤ length l → length (part at n l) ≡ n
part_size l at n h = length-take-le n (drop at l) (omega (arith, length-drop at l))

pub record_sized : (l : List ℕ) → is_record l ≡ true → IsSized (record_in l)
unfolding rest_in
record_sized l h =
    let s = record_size l h in
    record {
      map = part_size l 0 144 (omega (arith, s));
      closed = part_size l closed_at 18 (omega (arith, s));
      counts = part_size l counts_at 144 (omega (arith, s));
      held = part_size l held_at 144 (omega (arith, s));
      types = part_size l types_at (suc last_key) (omega (arith, s));
      queue = part_size l queue_at 16 (omega (arith, s));
      replies = refl;
    }
