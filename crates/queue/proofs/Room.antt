-- What pushing does to the bytes that wait: a sequence goes in whole or not at all, and never more than 16 wait. Assumes nothing.
use mathlib.Core.Path.{◌≡◌, refl, ap, ◌∙◌}
use mathlib.Core.Bool.{Bool, true, false}
use mathlib.Core.List.{List, [], ◌∷◌, ◌++◌, append-nil}
use Prim.Native.Nat.{ℕ, suc, ◌+◌, ◌≤◌}
use native.Mathlib.Omega.{arith}
use borrow.Author.Tests.{le-leb, leb-true, leb-false}
use lib.ListN.{length, length-append}
use Rattle.queue.specs.Queues.{has_room, last_replaced, pushed_to}

-- Replacing the last byte keeps the number of bytes, and changes no other byte.
pub length-last_replaced : (mark : ℕ) (l : List ℕ) → length (last_replaced mark l) ≡ length l
unfolding last_replaced
length-last_replaced mark [] = refl
length-last_replaced mark (x ∷ []) = refl
length-last_replaced mark (x ∷ y ∷ rest) = ap suc (length-last_replaced mark (y ∷ rest))

last_alone_replaced : (mark : ℕ) (front : List ℕ) (last : ℕ) → last_replaced mark (front ++ last ∷ []) ≡ front ++ mark ∷ []
unfolding last_replaced
last_alone_replaced mark [] last = refl
last_alone_replaced mark (x ∷ []) last = refl
last_alone_replaced mark (x ∷ y ∷ rest) last = ap (λ (l : List ℕ). x ∷ l) (last_alone_replaced mark (y ∷ rest) last)

-- A sequence that has room goes in whole, behind the bytes that wait.
pub pushed_whole : (mark : ℕ) (l s : List ℕ) → has_room l (length s) ≡ true → pushed_to mark l s ≡ l ++ s
unfolding pushed_to
pushed_whole mark l s room = rw room

-- A sequence of no bytes changes nothing, in a full queue neither.
pub pushed_none : (mark : ℕ) (l : List ℕ) → length l ≤ 16 → pushed_to mark l [] ≡ l
pushed_none mark l h = pushed_whole mark l [] (le-leb (length l + 0) 16 (omega arith)) ∙ append-nil l

-- Of a sequence that has no room not a byte goes in: the length stays, and so do all bytes but the last.
module _ (mark : ℕ) (l s : List ℕ) (full : has_room l (length s) ≡ false) where
  pub pushed_nothing : pushed_to mark l s ≡ last_replaced mark l
  unfolding pushed_to
  pushed_nothing = rw full

  pushed_nothing_length : length (pushed_to mark l s) ≡ length l
  pushed_nothing_length = rw pushed_nothing (length-last_replaced mark l)

  pub pushed_nothing_front : (front : List ℕ) (last : ℕ) → l ≡ front ++ last ∷ [] → pushed_to mark l s ≡ front ++ mark ∷ []
  pushed_nothing_front front last e = pushed_nothing ∙ ap (last_replaced mark) e ∙ last_alone_replaced mark front last

  -- So many wait then that there is a last byte.
  pub no_room_waits : length s ≤ 8 → 9 ≤ length l
  no_room_waits h = omega (arith, leb-false (length l + length s) 16 full)

-- Never more than 16 bytes wait.
pub pushed_short : (mark : ℕ) (l s : List ℕ) → length l ≤ 16 → length (pushed_to mark l s) ≤ 16
pushed_short mark l s h = go (has_room l (length s)) refl
  where
    go : (room : Bool) → has_room l (length s) ≡ room → length (pushed_to mark l s) ≤ 16
    go true e = rw (pushed_whole mark l s e, length-append) (leb-true _ _ e)
    go false e = rw (pushed_nothing_length mark l s e) h
