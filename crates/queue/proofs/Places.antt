-- Bytes at the front of an array and zeros behind them, for any number of places. Assumes nothing.
use mathlib.Core.Path.{◌≡◌, sym, ap, ◌∙◌}
use mathlib.Core.Bool.{true}
use mathlib.Core.List.{List, [], ◌∷◌, ◌++◌, append_assoc}
use Prim.Native.Nat.{ℕ, suc, ◌+◌, ◌-◌, ◌≤◌}
use native.Mathlib.Omega.{arith}
use borrow.Author.Tests.{leb-true, le-leb}
use lib.Dec.{leb}
use lib.ListN.{length, take, drop, replicate, length-append, length-drop, length-replicate, take-append-drop, replicate-append-replicate}
use lib.Seq.{length-take-le, drop-append_seam}
use Rattle.basics.specs.Lists.{all_up_to}
use Rattle.basics.proofs.Flags.{left_of_both, right_of_both}
use Rattle.basics.proofs.Zeros.{only_zeros, zeros_up_to_0}
use Rattle.queue.specs.Queues.{tidy_array}

-- The array of so many places that the bytes l wait in.
abbrev pub filled : ℕ → List ℕ → List ℕ
filled places l = l ++ replicate (places - length l) 0

zero_more : (n : ℕ) → ◌≡◌ {A = List ℕ} (replicate n 0 ++ 0 ∷ []) (replicate (n + 1) 0)
zero_more n = replicate-append-replicate n 1 0

module _ (places : ℕ) where
  -- The array of some bytes is in range and has its places; without the oldest, the others move up and a zero follows.
  module _ (l : List ℕ) (h : length l ≤ places) where
    pub filled_tidy : tidy_array places (filled places l) (length l) ≡ true
    filled_tidy = rw (le-leb (length l) places h, drop-append_seam l) (zeros_up_to_0 (places - length l))

    pub filled_places : length (filled places l) ≡ places
    filled_places = simp (length-append, length-replicate) (omega arith)

  without_oldest_lem : (l : List ℕ) → 1 ≤ length l → length l ≤ places → drop 1 (filled places l) ++ 0 ∷ [] ≡ filled places (drop 1 l)
  without_oldest_lem [] some h = absurd (omega arith)
  without_oldest_lem (x ∷ l) some h =
      let zeros : places - suc (length l) + 1 ≡ places - length l = omega arith in
      let bytes : l ++ replicate (places - suc (length l)) 0 ++ 0 ∷ [] ≡ filled places l = rw (append_assoc, zero_more, zeros) in
      bytes

  -- An array in range is the array of the bytes that wait in it.
  module _ (b : List ℕ) (n : ℕ) (t : tidy_array places b n ≡ true) where
    pub tidy_array_short : n ≤ places
    tidy_array_short = leb-true n places (left_of_both (leb n places) _ t)

    tidy_array_behind : all_up_to 0 (drop n b) ≡ true
    tidy_array_behind = right_of_both (leb n places) _ t

    module _ (long : length b ≡ places) where
      pub tidy_array_count : length (take n b) ≡ n
      tidy_array_count = length-take-le n b (omega (arith, tidy_array_short))

      pub tidy_array_is : b ≡ filled places (take n b)
      tidy_array_is =
          let many : length (drop n b) ≡ places - length (take n b) = omega (arith, length-drop n b, tidy_array_count) in
          let zeros = only_zeros (drop n b) tidy_array_behind ∙ ap (λ (k : ℕ). replicate k 0) many in
          sym (take-append-drop n b) ∙ ap (λ (r : List ℕ). take n b ++ r) zeros

      -- Without the oldest byte.
      module _ (some : 1 ≤ n) where
        pub popped_bytes : drop 1 b ++ 0 ∷ [] ≡ filled places (drop 1 (take n b))
        popped_bytes =
            ap (λ (a : List ℕ). drop 1 a ++ 0 ∷ []) tidy_array_is
            ∙ without_oldest_lem (take n b) (omega (arith, tidy_array_count)) (omega (arith, tidy_array_count, tidy_array_short))

        pub popped_count : n - 1 ≡ length (drop 1 (take n b))
        popped_count = omega (arith, length-drop 1 (take n b), tidy_array_count)
