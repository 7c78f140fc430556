-- All distances together are all pairs of columns. Assumes nothing.
use Rattle.std.proofs.Common.{◌≡◌, ℕ, zero, suc, ◌+◌, ◌<◌, ◌≤◌, Bool, true, false, List, [], ◌∷◌, length, get_or, sym, refl, ap, ◌∙◌, le_antisymm, suc-add, zero-add, arith}
use native.Mathlib.Decide.{ℕ_discrete, dec_lt}
use lib.Bits.{and_zero_r}
use lib.Count.{ones, ones_in}
use Rattle.basics.proofs.Cases.{neither, neither_first, neither_second}
use Rattle.phantom.specs.Phantom.{shares, shares_any, is_phantom, shares_at}
use Rattle.phantom.proofs.Distances.{shares_within}

-- Where no pair shares, no search finds one, and where a search finds none, no pair shares.
module _ (d : ℕ) (l : List ℕ) where
  abbrev apart : ℕ → Type 0
  apart j = shares (get_or l j 0) (get_or l (j + d) 0) ≡ false

  at_none : (n : ℕ) → ((j : ℕ) → j < n → apart j) → shares_at n d l ≡ false
  unfolding shares_at
  at_none zero f = refl
  at_none (suc n) f = neither _ _ (at_none n (λ j h. f j (omega arith))) (f n (omega arith))

  at_each : (n : ℕ) → shares_at n d l ≡ false → (j : ℕ) → j < n → apart j
  unfolding shares_at
  at_each zero e j h = absurd (omega arith)
  at_each (suc n) e j h = go (ℕ_discrete j n) (at_each n (neither_first (shares_at n d l) (shares (get_or l n 0) (get_or l (n + d) 0)) e) j)
    where
      go : Dec (j ≡ n) → (j < n → apart j) → apart j
      go (yes q) below = rw q (neither_second (shares_at n d l) (shares (get_or l n 0) (get_or l (n + d) 0)) e)
      go (no q) below = below (omega arith)

module _ (l : List ℕ) where
  abbrev last_apart : Type 0
  last_apart = shares (get_or l 16 0) (get_or l 17 0) ≡ false

  within_none : (n : ℕ) → last_apart → ((d : ℕ) → 0 < d → shares_at 16 d l ≡ false) → shares_within n l ≡ false
  unfolding shares_within
  within_none zero e f = e
  within_none (suc zero) e f = e
  within_none (suc (suc n)) e f = neither _ _ (within_none (suc n) e f) (f (suc n) (omega arith))

  within_last : (n : ℕ) → shares_within n l ≡ false → last_apart
  unfolding shares_within
  within_last zero e = e
  within_last (suc zero) e = e
  within_last (suc (suc n)) e = within_last (suc n) (neither_first (shares_within (suc n) l) (shares_at 16 (suc n) l) e)

  within_each : (n : ℕ) → shares_within n l ≡ false → (d : ℕ) → 0 < d → d < n → shares_at 16 d l ≡ false
  unfolding shares_within
  within_each zero e d p h = absurd (omega arith)
  within_each (suc zero) e d p h = absurd (omega arith)
  within_each (suc (suc n)) e d p h = go (ℕ_discrete d (suc n)) (within_each (suc n) (neither_first (shares_within (suc n) l) (shares_at 16 (suc n) l) e) d p)
    where
      go : Dec (d ≡ suc n) → (d < suc n → shares_at 16 d l ≡ false) → shares_at 16 d l ≡ false
      go (yes q) nearer = rw q (neither_second (shares_within (suc n) l) (shares_at 16 (suc n) l) e)
      go (no q) nearer = nearer (omega arith)

-- An open column shares with none.
open_first : (y : ℕ) → shares 0 y ≡ false
unfolding ones ones_in
open_first y = refl

open_second : (x : ℕ) → shares x 0 ≡ false
unfolding ones ones_in
open_second x = rw (and_zero_r x)

any_none : (x : ℕ) (l : List ℕ) → ((k : ℕ) → k < length l → shares x (get_or l k 0) ≡ false) → shares_any x l ≡ false
unfolding shares_any
any_none x [] f = refl
any_none x (y ∷ ys) f = neither _ _ (f 0 (omega arith)) (any_none x ys (λ k h. f (suc k) (omega arith)))

any_each : (x : ℕ) (l : List ℕ) → shares_any x l ≡ false → (k : ℕ) → shares x (get_or l k 0) ≡ false
unfolding shares_any
any_each x [] e k = open_second x
any_each x (y ∷ ys) e zero = neither_first (shares x y) (shares_any x ys) e
any_each x (y ∷ ys) e (suc k) = any_each x ys (neither_second (shares x y) (shares_any x ys) e) k

phantom_none : (s : List ℕ) → ((j d : ℕ) → 0 < d → j + d < length s → shares (get_or s j 0) (get_or s (j + d) 0) ≡ false) → is_phantom s ≡ false
unfolding is_phantom
phantom_none [] f = refl
phantom_none (x ∷ xs) f =
    neither _ _ (any_none x xs (λ k h. first k (f 0 (suc k) (omega arith) (omega arith))))
    (phantom_none xs (λ j d p h. later j d (f (suc j) d p (omega arith))))
  where
    first : (k : ℕ) → shares x (get_or (x ∷ xs) (0 + suc k) 0) ≡ false → shares x (get_or xs k 0) ≡ false
    first k e = rw zero-add at e

    later : (j d : ℕ) → shares (get_or xs j 0) (get_or (x ∷ xs) (suc j + d) 0) ≡ false → shares (get_or xs j 0) (get_or xs (j + d) 0) ≡ false
    later j d e = rw suc-add at e

phantom_each : (s : List ℕ) → is_phantom s ≡ false → (j d : ℕ) → 0 < d → shares (get_or s j 0) (get_or s (j + d) 0) ≡ false
unfolding is_phantom
phantom_each [] e j d p = open_first 0
phantom_each (x ∷ xs) e j zero p = absurd (omega arith)
phantom_each (x ∷ xs) e zero (suc d) p = rw zero-add (any_each x xs (neither_first (shares_any x xs) (is_phantom xs) e) d)
phantom_each (x ∷ xs) e (suc j) (suc d) p = rw suc-add (phantom_each xs (neither_second (shares_any x xs) (is_phantom xs) e) j (suc d) p)

-- So a scan of 18 columns is phantom where the last two share, or one of sixteen with a column less than 18 behind it: a later
-- column than those sixteen has another behind it only if it is the last but one.
module _ (s l : List ℕ) (n : length s ≡ 18) (f : (k : ℕ) → get_or l k 0 ≡ get_or s k 0) where
  by_distances : shares_within 18 l ≡ is_phantom s
  by_distances = alike (shares_within 18 l) (is_phantom s) found sought
    where
      alike : (a b : Bool) → (a ≡ false → b ≡ false) → (b ≡ false → a ≡ false) → a ≡ b
      alike true true p q = refl
      alike true false p q = q refl
      alike false true p q = sym (p refl)
      alike false false p q = refl

      found : shares_within 18 l ≡ false → is_phantom s ≡ false
      found e = phantom_none s (λ j d p h. rw (← f j, ← f (j + d)) (pair j d p (omega (arith, n)) (dec_lt j 16)))
        where
          pair : (j d : ℕ) → 0 < d → j + d < 18 → Dec (j < 16) → shares (get_or l j 0) (get_or l (j + d) 0) ≡ false
          pair j d p h (yes b) = at_each d l 16 (within_each l 18 e d p (omega arith)) j b
          pair j d p h (no b) =
              let last : j ≡ 16 = omega arith in
              let one : d ≡ 1 = omega arith in
              rw (last, one) (within_last l 18 e)

      sought : is_phantom s ≡ false → shares_within 18 l ≡ false
      sought e =
          within_none l 18 (rw (f 16, f 17) (phantom_each s e 16 1 (omega arith)))
          (λ d p. at_none d l 16 (λ j h. rw (f j, f (j + d)) (phantom_each s e j d p)))

  pub all_distances : (d : ℕ) (any : Bool) → any ≡ shares_within d l → d ≤ 18 → 18 ≤ d → any ≡ is_phantom s
  all_distances d any i a b = i ∙ ap (λ (k : ℕ). shares_within k l) (le_antisymm a b) ∙ by_distances
