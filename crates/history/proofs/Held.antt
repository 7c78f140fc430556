-- Keys by a map in which no key stands twice: where a key stands, and that it is held as the contact there is closed. Assumes nothing.
use mathlib.Core.Path.{◌≡◌, refl, sym, ap, ◌∙◌}
use mathlib.Core.Bool.{Bool, true, false, false≢true}
use mathlib.Core.List.{List, [], ◌∷◌}
use Prim.Native.Nat.{ℕ, zero, suc, ◌+◌, ◌≤◌, ◌<◌, suc-le-suc}
use native.Mathlib.Nat.{add-suc, suc-add, zero-add, le_of_suc-le-suc, not-suc-le-zero}
use native.Mathlib.Omega.{arith}
use borrow.Author.Tests.{eq-eqb, ne_eqb, eqb-true}
use lib.Dec.{eqb}
use lib.ListN.{length, get_or}
use Rattle.std.proofs.Common.{tests}
use Rattle.std.proofs.lemmas.Grind.{common_steps}
use Rattle.basics.specs.Choice.{either}
use Rattle.basics.proofs.Cases.{neither_second}
use Rattle.maps.specs.Maps.{is_in, has_double}
use Rattle.history.specs.Rows.{says_closed}
use Rattle.history.specs.Scans.{shown_at, says_held_from, says_held}

-- A key of the map stands somewhere,
pub found_at : (key : ℕ) (map : List ℕ) → is_in key map ≡ true → (position : ℕ) × (position < length map) × (get_or map position 0 ≡ key)
unfolding is_in
found_at key [] e = absurd (false≢true e)
found_at key (k ∷ ks) e = go (eqb k key) refl e (found_at key ks)
  where
    go : (b : Bool) → eqb k key ≡ b → either b (is_in key ks) ≡ true
        → (is_in key ks ≡ true → (position : ℕ) × (position < length ks) × (get_or ks position 0 ≡ key))
        → (position : ℕ) × (position < length (k ∷ ks)) × (get_or (k ∷ ks) position 0 ≡ key)
    go true t e later = (0, omega arith, eqb-true k key t)
    go false t e later = let found = later e in (suc found.0, suc-le-suc found.1, found.2)

-- and what stands somewhere is a key of the map.
is_in_at : (map : List ℕ) (position : ℕ) → position < length map → is_in (get_or map position 0) map ≡ true
unfolding is_in
is_in_at [] position h = absurd (not-suc-le-zero h)
is_in_at (k ∷ ks) zero h = rw (eq-eqb k k refl)
is_in_at (k ∷ ks) (suc position) h = grind (arith, is_in_at ks position (le_of_suc-le-suc h))

pub absent_at : (key : ℕ) (map : List ℕ) → is_in key map ≡ false → (position : ℕ) → position < length map → get_or map position 0 ≡ key → ⊥
absent_at key map e position h g = grind (arith, is_in_at)

-- A key that stands in front stands nowhere behind.
module _ (k : ℕ) (ks : List ℕ) (d : has_double (k ∷ ks) ≡ false) where
  not_again : (k ≡ 0 → ⊥) → is_in k ks ≡ false
  unfolding has_double
  not_again n = grind arith

  no_double_after : has_double ks ≡ false
  unfolding has_double
  no_double_after = grind arith

pub one_place : (map : List ℕ) → has_double map ≡ false → (p q : ℕ) → p < length map → q < length map
    → get_or map p 0 ≡ get_or map q 0 → (get_or map p 0 ≡ 0 → ⊥) → p ≡ q
one_place [] d p q h i e n = absurd (not-suc-le-zero h)
one_place (k ∷ ks) d zero zero h i e n = refl
one_place (k ∷ ks) d zero (suc q) h i e n = absurd (absent_at k ks (not_again k ks d n) q (le_of_suc-le-suc i) (sym e))
one_place (k ∷ ks) d (suc p) zero h i e n = absurd (absent_at k ks (not_again k ks d (λ z. n (e ∙ z))) p (le_of_suc-le-suc h) e)
one_place (k ∷ ks) d (suc p) (suc q) h i e n =
    ap suc (one_place ks (no_double_after k ks d) p q (le_of_suc-le-suc h) (le_of_suc-le-suc i) e n)

-- A key that stands nowhere is not held.
nowhere_from : (from : ℕ) (map : List ℕ) (scans : List (List ℕ)) (key : ℕ) → is_in key map ≡ false → says_held_from from map scans key ≡ false
unfolding says_held_from is_in
nowhere_from from [] scans key e = refl
nowhere_from from (k ∷ ks) scans key e = grind (arith, nowhere_from (suc from) ks scans key (neither_second (eqb k key) (is_in key ks) e))

pub says_held_nowhere : (map : List ℕ) (scans : List (List ℕ)) (key : ℕ) → is_in key map ≡ false → says_held map scans key ≡ false
unfolding says_held
says_held_nowhere map scans key e = nowhere_from 0 map scans key e

-- A key that stands somewhere is held as the contact there is closed.
held_from : (from : ℕ) (map : List ℕ) (scans : List (List ℕ)) (position key : ℕ) → has_double map ≡ false → position < length map
    → get_or map position 0 ≡ key → 1 ≤ key → says_held_from from map scans key ≡ says_closed (shown_at (from + position) scans)
unfolding says_held_from
held_from from [] scans position key d h e n = absurd (not-suc-le-zero h)
held_from from (k ∷ ks) scans zero key d h e n = grind (arith, tests, not_again, nowhere_from)
held_from from (k ∷ ks) scans (suc position) key d h e n =
    let other : k ≡ key → ⊥ = λ z. absent_at k ks (not_again k ks d (λ y. omega arith)) position (le_of_suc-le-suc h) (e ∙ sym z) in
    rw (ne_eqb k key other, add-suc, ← suc-add) (held_from (suc from) ks scans position key (no_double_after k ks d) (le_of_suc-le-suc h) e n)

pub says_held_at : (map : List ℕ) (scans : List (List ℕ)) (position key : ℕ) → has_double map ≡ false → position < length map
    → get_or map position 0 ≡ key → 1 ≤ key → says_held map scans key ≡ says_closed (shown_at position scans)
unfolding says_held
says_held_at map scans position key d h e n = grind (arith, common_steps, held_from, zero-add)
