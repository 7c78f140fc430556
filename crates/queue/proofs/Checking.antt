-- The check that zeros stand behind the bytes that wait, place by place, for any number of places. Assumes nothing.
use mathlib.Core.Path.{◌≡◌, refl, sym, ◌∙◌}
use mathlib.Core.Bool.{Bool, true, false, ◌&&◌, ◌||◌}
use mathlib.Core.List.{List, []}
use Prim.Native.Nat.{ℕ, zero, suc, ◌+◌, ◌≤◌, ◌<◌, max}
use native.Mathlib.Nat.{max-zero, max-eq_left, max-eq_right}
use native.Mathlib.Numerals.{add-one}
use native.Mathlib.Omega.{arith}
use borrow.Author.Tests.{ltb-true, ltb-false, lt-leb, ne_eqb}
use lib.Dec.{leb, ltb, eqb}
use lib.ListN.{length, drop, get_or, drop_of_length-le}
use lib.Seq.{drop-cons}
use Rattle.basics.specs.Choice.{both}
use Rattle.basics.specs.Lists.{all_up_to}
use Rattle.basics.proofs.Flags.{flag_tells}
use Rattle.queue.specs.Queues.{tidy_array}

-- The array is in range if what was seen so far is good and zeros stand behind its bytes from the i-th place on.
unfoldable pub Seen : ℕ → List ℕ → ℕ → Bool → ℕ → Type 0
Seen places b n good i = tidy_array places b n ≡ both good (all_up_to 0 (drop (max n i) b))

no_more_than_0 : (n : ℕ) → leb n 0 ≡ eqb n 0
no_more_than_0 zero = refl
no_more_than_0 (suc n) = lt-leb (suc n) 0 (omega arith) ∙ sym (ne_eqb (suc n) 0 (λ e. omega arith))

module _ (places : ℕ) (b : List ℕ) (n : ℕ) where
  pub seen_none : Seen places b n (leb n places) 0
  unfolding Seen
  seen_none = rw max-zero

  -- The test of a place: a byte waits there, whatever it is, or it is 0.
  abbrev fine : ℕ → Bool
  fine i = ltb i n || eqb (get_or b i 0) 0

  module _ (i : ℕ) (place : i < length b) where
    one_place : all_up_to 0 (drop (max n i) b) ≡ both (fine i) (all_up_to 0 (drop (max n (i + 1)) b))
    unfolding all_up_to
    one_place = go (ltb i n) refl
      where
        go : (t : Bool) → ltb i n ≡ t → all_up_to 0 (drop (max n i) b) ≡ both (t || eqb (get_or b i 0) 0) (all_up_to 0 (drop (max n (i + 1)) b))
        go true e =
            let waits : i < n = ltb-true _ _ e in
            let now : max n i ≡ n = max-eq_left (omega arith) in
            let next : max n (i + 1) ≡ n = max-eq_left (omega arith) in
            rw (now, next)
        go false e =
            let behind : n ≤ i = ltb-false _ _ e in
            let now : max n i ≡ i = max-eq_right behind in
            let next : max n (i + 1) ≡ suc i = max-eq_right (omega arith) ∙ add-one i in
            rw (now, next, drop-cons b i 0 place, no_more_than_0)

    pub seen_more : (good : Bool) → Seen places b n good i → Seen places b n (good && fine i) (i + 1)
    unfolding Seen
    seen_more true seen = seen ∙ one_place
    seen_more false seen = seen

  pub seen_all : length b ≡ places → (good : Bool) (i : ℕ) → places ≤ i → Seen places b n good i → good ≡ tidy_array places b n
  unfolding Seen all_up_to
  seen_all long good i high seen =
      let none : drop (max n i) b ≡ [] = drop_of_length-le b {i = max n i} (omega arith) in
      flag_tells (tidy_array places b n) good (rw none at seen)
