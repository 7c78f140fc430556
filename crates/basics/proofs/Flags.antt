-- A loop over a list that keeps in a flag whether the entries so far have all passed a test, or whether one has. Assumes nothing.
use mathlib.Core.Path.{◌≡◌, refl, sym, ◌∙◌}
use mathlib.Core.Bool.{Bool, true, false, ◌&&◌, ◌||◌}
use mathlib.Core.List.{List, [], ◌∷◌}
use Prim.Native.Nat.{ℕ, suc, ◌+◌, ◌≤◌, ◌<◌}
use native.Mathlib.Numerals.{add-one}
use lib.ListN.{length, get_or, drop, drop_of_length-le}
use lib.Seq.{drop-cons}
use Rattle.basics.specs.Choice.{both, either}
use Rattle.basics.proofs.Cases.{either_false}

pub both_false : (b : Bool) → both b false ≡ false
both_false true = refl
both_false false = refl

both_true : (b : Bool) → both b true ≡ b
both_true true = refl
both_true false = refl

pub flag_tells : (whole flag : Bool) → whole ≡ both flag true → flag ≡ whole
flag_tells whole flag i = sym (i ∙ both_true flag)

pub both_so_far : (flag test rest : Bool) → both flag (both test rest) ≡ both (flag && test) rest
both_so_far true test rest = refl
both_so_far false test rest = refl

-- A list of which each entry has to pass: `all` is the test of the list, `test` that of an entry.
module _ (all : List ℕ → Bool) (test : ℕ → Bool) (none : all [] ≡ true) (one : (x : ℕ) (xs : List ℕ) → all (x ∷ xs) ≡ both (test x) (all xs))
    (l : List ℕ) (p : ℕ) (flag : Bool) (i : all l ≡ both flag (all (drop p l))) where
  pub all_more : p < length l → (b : Bool) → b ≡ test (get_or l p 0) → all l ≡ both (flag && b) (all (drop (p + 1) l))
  all_more h b e = i ∙ rw (e, add-one, drop-cons l p 0, one) (both_so_far flag (test (get_or l p 0)) (all (drop (suc p) l)))

  pub all_end : length l ≤ p → flag ≡ all l
  all_end h = flag_tells (all l) flag (i ∙ rw (drop_of_length-le l {i = p} h, none))

pub either_so_far : (flag test rest : Bool) → either flag (either test rest) ≡ either (flag || test) rest
either_so_far true test rest = refl
either_so_far false test rest = refl

-- And one of which some entry has to pass.
module _ (any : List ℕ → Bool) (test : ℕ → Bool) (none : any [] ≡ false) (one : (x : ℕ) (xs : List ℕ) → any (x ∷ xs) ≡ either (test x) (any xs))
    (l : List ℕ) (p : ℕ) (flag : Bool) (i : any l ≡ either flag (any (drop p l))) where
  pub any_more : p < length l → (b : Bool) → b ≡ test (get_or l p 0) → any l ≡ either (flag || b) (any (drop (p + 1) l))
  any_more h b e = i ∙ rw (e, add-one, drop-cons l p 0, one) (either_so_far flag (test (get_or l p 0)) (any (drop (suc p) l)))

  pub any_end : length l ≤ p → flag ≡ any l
  any_end h = sym (i ∙ rw (drop_of_length-le l {i = p} h, none) (either_false flag))

pub left_of_both : (a b : Bool) → both a b ≡ true → a ≡ true
left_of_both true b e = refl
left_of_both false b e = e

pub right_of_both : (a b : Bool) → both a b ≡ true → b ≡ true
right_of_both true b e = e
right_of_both false b e = cc
