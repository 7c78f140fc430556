-- Popping on the array, for any number of places: every byte moved one place to the front makes what waits without its oldest byte. Assumes nothing.
use mathlib.Core.Path.{◌≡◌, sym, ap, ◌∙◌}
use mathlib.Core.Bool.{true}
use mathlib.Core.List.{List, [], ◌∷◌, ◌++◌}
use Prim.Native.Nat.{ℕ, ◌-◌}
use native.Mathlib.Omega.{arith}
use lib.ListN.{length, take, drop, get_or}
use Rattle.std.specs.Prelude.{Some, None, slice_get}
use Rattle.std.proofs.lemmas.Option.{slice_get-get_or}
use Rattle.std.proofs.lemmas.List.{get_or-take}
use Rattle.queue.specs.Queues.{tidy_array}
use Rattle.queue.proofs.Places.{filled, tidy_array_is, tidy_array_count, popped_bytes, popped_count}

-- The array after, and how many wait in it then, are those of the bytes without the oldest.
abbrev pub Popped : ℕ → List ℕ → ℕ → List ℕ → ℕ → Type 0
Popped places b n after count =
    record { bytes : after ≡ filled places (drop 1 (take n b)); count : count ≡ length (drop 1 (take n b)) }

module _ (places : ℕ) (b : List ℕ) (n : ℕ) (t : tidy_array places b n ≡ true) (long : length b ≡ places) where
  -- Where nothing waits there is no oldest byte, and nothing changes.
  module _ (h : n ≡ 0) where
    none_waits : take n b ≡ []
    none_waits = ap (λ (k : ℕ). take k b) h

    pub no_oldest : None ≡ slice_get (take n b) 0
    no_oldest = rw none_waits

    pub nothing_popped : Popped places b n b n
    nothing_popped =
        let same : take n b ≡ drop 1 (take n b) = none_waits ∙ ap (λ (l : List ℕ). drop 1 l) (sym none_waits) in
        record {
          bytes = tidy_array_is places b n t long ∙ ap (filled places) same;
          count = sym (tidy_array_count places b n t long) ∙ ap length same;
        }

  -- Else the oldest is the first, and a zero follows the others.
  module _ (h : n ≡ 0 → ⊥) where
    pub oldest_first : Some (get_or b 0 0) ≡ slice_get (take n b) 0
    oldest_first =
        let first = get_or-take n b 0 0 (omega arith) in
        ap (λ (x : ℕ). Some x) (sym first) ∙ sym (slice_get-get_or (take n b) 0 0 (omega (arith, tidy_array_count places b n t long)))

    pub popped_by_moving : (after : List ℕ) → after ≡ drop 1 b ++ 0 ∷ [] → Popped places b n after (n - 1)
    popped_by_moving after e =
        record {
          bytes = e ∙ popped_bytes places b n t long (omega arith);
          count = popped_count places b n t long (omega arith);
        }
