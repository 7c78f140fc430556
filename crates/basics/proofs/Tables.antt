-- What is computed once over a whole list holds at each of its places: laws for any list and any fact. Assumes nothing.
use mathlib.Core.Path.{◌≡◌, refl, ap}
use mathlib.Core.Bool.{Bool, true, false}
use mathlib.Core.List.{List, [], ◌∷◌}
use Prim.Native.Nat.{ℕ, zero, suc, ◌+◌, ◌<◌}
use native.Mathlib.Nat.{add-zero, add-suc, suc-add, le_of_suc-le-suc, not-suc-le-zero}
use native.Mathlib.Omega.{arith}
use native.Mathlib.Decide.{ℕ_discrete}
use lib.Dec.{T}
use lib.ListN.{length, get_or}
use Rattle.basics.specs.Choice.{both}
use Rattle.basics.specs.Lists.{map_from}

abbrev head_or : {A : Type 0} → A → List A → A
head_or d [] = d
head_or d (x ∷ xs) = x

abbrev tail_of : {A : Type 0} → List A → List A
tail_of [] = []
tail_of (x ∷ xs) = xs

-- Two functions that make equal lists of one list agree at each of its entries.
pub at_each_place : {A B : Type 0} (f g : ℕ → A → B) (d : A) (xs : List A) (i : ℕ) → map_from f i xs ≡ map_from g i xs
    → (k : ℕ) → k < length xs → f (i + k) (get_or xs k d) ≡ g (i + k) (get_or xs k d)
at_each_place f g d [] i e k h = absurd (not-suc-le-zero h)
at_each_place f g d (x ∷ xs) i e zero h = rw add-zero (ap (head_or (f i x)) e)
at_each_place f g d (x ∷ xs) i e (suc k) h =
    rw (add-suc, ← suc-add) (at_each_place f g d xs (suc i) (ap tail_of e) k (le_of_suc-le-suc h))

-- What a function gives for each number below n.
abbrev pub values_below : {A : Type 0} → (ℕ → A) → ℕ → List A
values_below f zero = []
values_below f (suc n) = f n ∷ values_below f n

-- Two functions with the same values below n agree at each number below n.
pub alike_below : {A : Type 0} (f g : ℕ → A) (n : ℕ) → values_below f n ≡ values_below g n → (k : ℕ) → k < n → f k ≡ g k
alike_below f g zero e k h = absurd (not-suc-le-zero h)
alike_below f g (suc n) e k h = go (ℕ_discrete k n) (alike_below f g n (ap tail_of e) k)
  where
    go : Dec (k ≡ n) → (k < n → f k ≡ g k) → f k ≡ g k
    go (yes q) later = rw q (ap (head_or (f n)) e)
    go (no q) later = later (omega arith)

-- A test passes at each number below n.
abbrev pub all_below : (ℕ → Bool) → ℕ → Bool
all_below f zero = true
all_below f (suc n) = both (f n) (all_below f n)

-- A test that was computed: it is true, and so are both of two.
pub passed : (b : Bool) → T b → b ≡ true
passed true t = refl
passed false t = absurd t

pub both_left : (a b : Bool) → T (both a b) → T a
both_left true b t = tt
both_left false b t = t

pub both_right : (a b : Bool) → T (both a b) → T b
both_right true b t = t
both_right false b t = absurd t

pub below : (f : ℕ → Bool) (n : ℕ) → T (all_below f n) → (k : ℕ) → k < n → T (f k)
below f zero t k h = absurd (not-suc-le-zero h)
below f (suc n) t k h = go (ℕ_discrete k n) (λ l. below f n (both_right (f n) (all_below f n) t) k l)
  where
    go : Dec (k ≡ n) → (k < n → T (f k)) → T (f k)
    go (yes e) later = rw e (both_left (f n) (all_below f n) t)
    go (no e) later = later (omega arith)
