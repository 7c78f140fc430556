-- Pushing on the array: the bytes copied in behind, or the mark over the last byte, make the queue that the definition gives. Assumes nothing.
use mathlib.Core.Path.{◌≡◌, refl, sym, ap, ap₂, ◌∙◌}
use mathlib.Core.Bool.{true, false}
use mathlib.Core.List.{List, [], ◌∷◌, ◌++◌, append_assoc}
use Prim.Native.Nat.{ℕ, zero, suc, ◌+◌, ◌-◌, ◌≤◌}
use native.Mathlib.Nat.{sub-zero, zero-sub, suc-sub-suc, sub-add-eq}
use native.Mathlib.Omega.{arith}
use borrow.Author.Tests.{le-leb, leb-true, leb-false}
use lib.ListN.{length, take, drop, set, replicate, length-append, length-take}
use lib.Seq.{take-append_seam, drop-append_seam}
use borrow.Rule.Slice.PartMut.{put_mid}
use Rattle.codes.specs.declared.Sequence.{Sequence}
use Rattle.queue.specs.declared.Queue.{Queue}
use Rattle.queue.specs.Queues.{queue_with, waiting, queue_of, tidy, contents, has_room, last_replaced, pushed_to}
use Rattle.queue.proofs.Meaning.{tidy_is, length_waiting, waiting-queue_of, count_contents}
use Rattle.queue.proofs.Room.{length-last_replaced, pushed_whole, pushed_nothing}

-- Fewer zeros are left.
pub drop_zeros : (n k : ℕ) → ◌≡◌ {A = List ℕ} (drop k (replicate n 0)) (replicate (n - k) 0)
drop_zeros n zero = rw sub-zero
drop_zeros zero (suc k) = rw zero-sub
drop_zeros (suc n) (suc k) = rw suc-sub-suc (drop_zeros n k)

-- The bytes c put behind those that wait.
copied : (l c : List ℕ) (n k : ℕ) → n ≡ length c → k ≡ length c → length l + length c ≤ 16
    → queue_with (take (length l) (queue_of l).bytes ++ (c ++ drop k (drop (length l) (queue_of l).bytes))) (length l + n) ≡ queue_of (l ++ c)
unfolding queue_of
copied l c n k e f h =
    let count : length (l ++ c) ≡ length l + length c = length-append l c in
    ap₂ queue_with (rw (f, take-append_seam, drop-append_seam, drop_zeros, count, append_assoc, sub-add-eq)) (rw e (sym count))

-- The mark over the last of the bytes that wait, whatever stands behind them.
set_last : (mark k : ℕ) (l rest : List ℕ) → length l ≡ suc k → set (l ++ rest) k mark ≡ last_replaced mark l ++ rest
unfolding last_replaced
set_last mark zero (x ∷ []) rest e = refl
set_last mark (suc k) (x ∷ y ∷ l) rest e = ap (λ (r : List ℕ). x ∷ r) (set_last mark k (y ∷ l) rest (omega arith))
set_last mark k [] rest e = absurd (omega arith)
set_last mark (suc k) (x ∷ []) rest e = absurd (omega arith)
set_last mark zero (x ∷ y ∷ l) rest e = absurd (omega arith)

marked : (mark : ℕ) (l : List ℕ) → 1 ≤ length l → queue_with (set (queue_of l).bytes (length l - 1) mark) (length l) ≡ queue_of (last_replaced mark l)
unfolding queue_of
marked mark l h =
    let count : length (last_replaced mark l) ≡ length l = length-last_replaced mark l in
    ap₂ queue_with (rw count (set_last mark (length l - 1) l _ (omega arith))) (sym count)

-- The mark over the last byte of a queue in range.
pub marked_last : (q : Queue) → tidy q ≡ true → length q.bytes ≡ 16 → (mark : ℕ) → 1 ≤ q.length
    → queue_with (set q.bytes (q.length - 1) mark) q.length ≡ queue_of (last_replaced mark (waiting q))
unfolding queue_of
marked_last q t places mark h =
    let count : length (waiting q) ≡ q.length = length_waiting q t places in
    ap (λ (x : Queue). queue_with (set x.bytes (x.length - 1) mark) x.length) (tidy_is q places t) ∙ marked mark (waiting q) (omega (arith, count))

-- Where there is no room, some byte waits.
pub some_waits : (q : Queue) (more : ℕ) → more ≤ 16 → has_room (waiting q) more ≡ false → 1 ≤ q.length
unfolding waiting
some_waits q more h full = omega (arith, length-take q.length q.bytes, leb-false (length (take q.length q.bytes) + more) 16 full)

module _ (q : Queue) (t : tidy q ≡ true) (places : length q.bytes ≡ 16)
    (s : Sequence) (short : s.length ≤ 8) (places-s : length s.bytes ≡ 8) (mark : ℕ) where
  count : length (waiting q) ≡ q.length
  count = length_waiting q t places

  count_s : length (contents s) ≡ s.length
  count_s = count_contents s places-s short

  room_is : has_room (waiting q) (length (contents s)) ≡ has_room (waiting q) s.length
  room_is = rw count_s

  -- There is room, and the bytes stand behind those that wait.
  pub pushed_by_copying : has_room (waiting q) s.length ≡ true → (part : List ℕ) → part ≡ contents s
      → queue_with (put_mid q.length (q.length + s.length - q.length) q.bytes part) (q.length + s.length)
      ≡ queue_of (pushed_to mark (waiting q) (contents s))
  unfolding queue_of
  pushed_by_copying room part e =
      let n = q.length + s.length - q.length in
      let fits = leb-true (length (waiting q) + s.length) 16 room in
      rw e
      (ap (λ (x : Queue). queue_with (take x.length x.bytes ++ (contents s ++ drop n (drop x.length x.bytes))) (x.length + s.length)) (tidy_is q places t)
      ∙ copied (waiting q) (contents s) s.length n (sym count_s) (omega (arith, count_s)) (omega (arith, fits, count_s))
      ∙ ap queue_of (sym (pushed_whole mark (waiting q) (contents s) (room_is ∙ room))))

  -- There is no room, and the mark is put over the last byte that waits.
  pub pushed_by_marking : has_room (waiting q) s.length ≡ false → (after : Queue) → after ≡ queue_of (last_replaced mark (waiting q))
      → after ≡ queue_of (pushed_to mark (waiting q) (contents s))
  pushed_by_marking full after e = e ∙ ap queue_of (sym (pushed_nothing mark (waiting q) (contents s) (room_is ∙ full)))

-- Pushed onto an empty queue, a sequence waits alone.
pub pushed_alone : (q after : Queue) (s : Sequence) (mark : ℕ) → q ≡ queue_of [] → length (contents s) ≤ 16
    → after ≡ queue_of (pushed_to mark (waiting q) (contents s)) → after ≡ queue_of (contents s)
pushed_alone q after s mark e short f =
    let none : waiting q ≡ [] = ap waiting e ∙ waiting-queue_of [] in
    let room : has_room [] (length (contents s)) ≡ true = le-leb (0 + length (contents s)) 16 (omega arith) in
    f ∙ ap queue_of (ap (λ (l : List ℕ). pushed_to mark l (contents s)) none ∙ pushed_whole mark [] (contents s) room)
