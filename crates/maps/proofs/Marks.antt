-- Keys marked as they are met, each by itself: what the marks say of the entries still to come. Assumes nothing.
use mathlib.Core.Path.{◌≡◌, refl, sym, ap, ◌∙◌}
use mathlib.Core.Bool.{Bool, true, false, not, ◌||◌}
use mathlib.Core.List.{List, [], ◌∷◌}
use Prim.Native.Nat.{ℕ, zero, suc, ◌+◌, ◌<◌, ◌≤◌}
use native.Mathlib.Numerals.{add-one}
use native.Mathlib.Omega.{arith}
use native.Mathlib.Decide.{ℕ_discrete}
use borrow.Author.Tests.{eq-eqb, ne_eqb}
use lib.Dec.{eqb}
use lib.ListN.{length, get_or, set, drop, replicate, drop_of_length-le}
use lib.Seq.{drop-cons, set-get_or, get_or-set_same, get_or-set_other}
use Rattle.basics.specs.Choice.{either}
use Rattle.basics.proofs.Cases.{either_false}
use Rattle.basics.proofs.Flags.{either_so_far}
use Rattle.basics.proofs.Zeros.{zeros_at}
use Rattle.keys.specs.Keys.{last_key}
use Rattle.maps.specs.Maps.{is_in, has_double}

-- A key has its mark.
abbrev pub marked : List ℕ → ℕ → Bool
marked seen k = not (eqb (get_or seen k 0) 0)

-- Some key of a list has its mark.
unfoldable pub any_marked : List ℕ → List ℕ → Bool
any_marked seen [] = false
any_marked seen (k ∷ ks) = either (marked seen k) (any_marked seen ks)

-- What the entries still to come will show: a key that has been met, or one that stands twice among them.
unfoldable pub to_find : List ℕ → List ℕ → Bool
to_find seen ks = either (any_marked seen ks) (has_double ks)

-- Where no key has its mark.
none_marked : (n : ℕ) (ks : List ℕ) → any_marked (replicate n 0) ks ≡ false
unfolding any_marked
none_marked n [] = refl
none_marked n (k ∷ ks) = rw (zeros_at n k) (none_marked n ks)

-- A key that gets its mark: some key of a list has its mark then if it did, or if the list has this one.
mark : (seen : List ℕ) (k : ℕ) → k < length seen → (k ≡ 0 → ⊥) → (ks : List ℕ)
    → any_marked (set seen k k) ks ≡ either (is_in k ks) (any_marked seen ks)
unfolding any_marked is_in
mark seen k h n [] = refl
mark seen k h n (x ∷ ks) = go (ℕ_discrete x k) (mark seen k h n ks)
  where
    past : (a b c : Bool) → either a (either b c) ≡ either b (either a c)
    past true true c = refl
    past true false c = refl
    past false b c = refl

    go : Dec (x ≡ k) → any_marked (set seen k k) ks ≡ either (is_in k ks) (any_marked seen ks)
        → either (marked (set seen k k) x) (any_marked (set seen k k) ks)
        ≡ either (either (eqb x k) (is_in k ks)) (either (marked seen x) (any_marked seen ks))
    go (yes e) i = rw (e, get_or-set_same seen k k 0 h, ne_eqb k 0 n, eq-eqb k k refl)
    go (no f) i = rw (get_or-set_other seen k x k 0 f, ne_eqb x k f, i) (past (marked seen x) (is_in k ks) (any_marked seen ks))

-- The next entry: it has its mark, or the rest will show what is to be found when it has got it.
next : (seen : List ℕ) (k : ℕ) → k < length seen → get_or seen 0 0 ≡ 0 → (ks : List ℕ)
    → to_find seen (k ∷ ks) ≡ either (marked seen k) (to_find (set seen k k) ks)
unfolding to_find any_marked has_double
next seen zero h z ks = rw (z, ap (λ (v : ℕ). set seen 0 v) (sym z) ∙ set-get_or seen 0 0)
next seen (suc k) h z ks =
    let key : suc k ≡ 0 → ⊥ = λ e. omega arith in
    rw (ne_eqb (suc k) 0 key, mark seen (suc k) h key ks) (order (marked seen (suc k)) (any_marked seen ks) (is_in (suc k) ks) (has_double ks))
  where
    order : (m a i d : Bool) → either (either m a) (either i d) ≡ either m (either (either i a) d)
    order true a i d = refl
    order false true true d = refl
    order false true false d = refl
    order false false true d = refl
    order false false false d = refl

-- The loop that looks for a double: at its start, after a turn, and at its end.
pub double_none : (l : List ℕ) → has_double l ≡ either false (to_find (replicate (suc last_key) 0) l)
unfolding to_find
double_none l = rw (none_marked (suc last_key) l)

-- No key is 0, and it gets no mark.
pub zero_unmarked : (seen : List ℕ) (k : ℕ) → get_or seen 0 0 ≡ 0 → get_or (set seen k k) 0 0 ≡ 0
zero_unmarked [] k z = refl
zero_unmarked (x ∷ seen) zero z = refl
zero_unmarked (x ∷ seen) (suc k) z = z

module _ (l seen : List ℕ) (p : ℕ) (double : Bool) (i : has_double l ≡ either double (to_find seen (drop p l))) where
  module _ (h : p < length l) (k : ℕ) (e : k ≡ get_or l p 0) (b : k < length seen) (z : get_or seen 0 0 ≡ 0) where
    turn : has_double l ≡ either double (either (marked seen k) (to_find (set seen k k) (drop (p + 1) l)))
    turn = i ∙ rw (add-one, drop-cons l p 0, ← e, next seen k b z)

    pub double_more : has_double l ≡ either (double || marked seen k) (to_find (set seen k k) (drop (p + 1) l))
    double_more = turn ∙ either_so_far double (marked seen k) (to_find (set seen k k) (drop (p + 1) l))

  pub double_end : length l ≤ p → double ≡ has_double l
  unfolding to_find any_marked has_double
  double_end h = sym (i ∙ rw drop_of_length-le (either_false double))
