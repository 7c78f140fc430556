-- A list put through a function place by place: its length, and what stands at each place. Assumes nothing.
use mathlib.Core.Path.{◌≡◌, refl, ap, ◌∙◌}
use mathlib.Core.List.{List, [], ◌∷◌}
use Prim.Native.Nat.{ℕ, zero, suc, ◌+◌, ◌<◌}
use native.Mathlib.Nat.{add-zero, add-suc, suc-add, zero-add, le_of_suc-le-suc, not-suc-le-zero}
use lib.ListN.{length, get_or}
use lib.Seq.{ext_get_or}
use Rattle.basics.specs.Lists.{map_from}

pub length-map_from : {A B : Type 0} (f : ℕ → A → B) (i : ℕ) (xs : List A) → length (map_from f i xs) ≡ length xs
length-map_from f i [] = refl
length-map_from f i (x ∷ xs) = ap suc (length-map_from f (suc i) xs)

get_or-map_from_at : {A B : Type 0} (f : ℕ → A → B) (d : A) (e : B) (i : ℕ) (xs : List A) (k : ℕ) → k < length xs
    → get_or (map_from f i xs) k e ≡ f (i + k) (get_or xs k d)
get_or-map_from_at f d e i [] k h = absurd (not-suc-le-zero h)
get_or-map_from_at f d e i (x ∷ xs) zero h = rw add-zero
get_or-map_from_at f d e i (x ∷ xs) (suc k) h = rw (add-suc, ← suc-add) (get_or-map_from_at f d e (suc i) xs k (le_of_suc-le-suc h))

pub get_or-map_from : {A B : Type 0} (f : ℕ → A → B) (d : A) (e : B) (xs : List A) (k : ℕ) → k < length xs
    → get_or (map_from f 0 xs) k e ≡ f k (get_or xs k d)
get_or-map_from f d e xs k h = get_or-map_from_at f d e 0 xs k h ∙ ap (λ (n : ℕ). f n (get_or xs k d)) (zero-add k)

-- A list as long, with the same at each place, is the list put through.
pub map_from-is : {A B : Type 0} (f : ℕ → A → B) (d : A) (e : B) (xs : List A) (ys : List B) → length ys ≡ length xs
    → ((k : ℕ) → k < length xs → get_or ys k e ≡ f k (get_or xs k d)) → ys ≡ map_from f 0 xs
map_from-is f d e xs ys l h =
    ext_get_or e ys (map_from f 0 xs) (rw (length-map_from f 0 xs) l) (λ k b. rw (get_or-map_from f d e xs k (rw l at b)) (h k (rw l at b)))
