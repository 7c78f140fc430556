-- A list with some of its entries made anew, one after the other. Assumes nothing.
use mathlib.Core.Path.{◌≡◌, refl, sym, ap, ◌∙◌}
use mathlib.Core.List.{List}
use Prim.Native.Nat.{ℕ, zero, suc, ◌+◌, ◌≤◌, ◌<◌}
use native.Mathlib.Nat.{add-zero, add-suc, zero-add}
use native.Mathlib.Numerals.{add-one}
use native.Mathlib.Omega.{arith}
use native.Mathlib.Decide.{ℕ_discrete}
use lib.ListN.{length, get_or, set, replicate, length-set, length-replicate}
use lib.Seq.{paste, paste-zero, paste-suc, get_or-set_same, get_or-set_other}
use Rattle.basics.specs.Lists.{map_from}
use Rattle.basics.proofs.Maps.{map_from-is}
use Rattle.basics.proofs.Zeros.{zeros_at}
use Rattle.contacts.specs.Counts.{renewed}

module _ (new : ℕ → ℕ → ℕ) (first : ℕ) where
  pub renewed_none : (list : List ℕ) → list ≡ renewed new first 0 list
  unfolding renewed
  renewed_none list = refl

  length_renewed : (n : ℕ) (list : List ℕ) → length (renewed new first n list) ≡ length list
  unfolding renewed
  length_renewed zero list = refl
  length_renewed (suc n) list = simp length-set (length_renewed n list)

  -- What comes after them is as it was.
  pub renewed_later : (n : ℕ) (list : List ℕ) (p : ℕ) → first + n ≤ p → get_or (renewed new first n list) p 0 ≡ get_or list p 0
  unfolding renewed
  renewed_later zero list p h = refl
  renewed_later (suc n) list p h =
      get_or-set_other (renewed new first n list) (first + n) p (new n (get_or list (first + n) 0)) 0 (λ (e : p ≡ first + n). omega arith)
      ∙ renewed_later n list p (omega arith)

  -- Each of them is new.
  renewed_at : (n : ℕ) (list : List ℕ) (i : ℕ) → i < n → first + n ≤ length list
      → get_or (renewed new first n list) (first + i) 0 ≡ new i (get_or list (first + i) 0)
  unfolding renewed
  renewed_at zero list i h l = omega arith
  renewed_at (suc n) list i h l = go (ℕ_discrete i n) (λ b. renewed_at n list i b (omega arith)) (length_renewed n list)
    where
      go : Dec (i ≡ n) → (i < n → get_or (renewed new first n list) (first + i) 0 ≡ new i (get_or list (first + i) 0))
          → length (renewed new first n list) ≡ length list
          → get_or (set (renewed new first n list) (first + n) (new n (get_or list (first + n) 0))) (first + i) 0 ≡ new i (get_or list (first + i) 0)
      go (yes e) before m = rw e (get_or-set_same (renewed new first n list) (first + n) (new n (get_or list (first + n) 0)) 0 (omega arith))
      go (no d) before m =
          get_or-set_other (renewed new first n list) (first + n) (first + i) (new n (get_or list (first + n) 0)) 0
          (λ (e : first + i ≡ first + n). d (omega arith))
          ∙ before (omega arith)

  -- One more.
  pub renewed_more : (n : ℕ) (list l : List ℕ) (x : ℕ) → l ≡ renewed new first n list → x ≡ new n (get_or l (first + n) 0)
      → set l (first + n) x ≡ renewed new first (n + 1) list
  unfolding renewed
  renewed_more n list l x i e =
      rw (add-one, e, i) (ap (λ (y : ℕ). set (renewed new first n list) (first + n) (new n y)) (renewed_later n list (first + n) (omega arith)))

-- All of them: the list put through.
pub renewed_all : (new : ℕ → ℕ → ℕ) (list : List ℕ) → renewed new 0 (length list) list ≡ map_from new 0 list
renewed_all new list =
    map_from-is new 0 0 list (renewed new 0 (length list) list) (length_renewed new 0 (length list) list)
    (λ k h. rw zero-add at (renewed_at new 0 (length list) list k h (omega arith)))

-- From the front on.
pub renewed_next : (new : ℕ → ℕ → ℕ) (n : ℕ) (list l : List ℕ) (x : ℕ) → l ≡ renewed new 0 n list → x ≡ new n (get_or list n 0)
    → set l n x ≡ renewed new 0 (n + 1) list
unfolding renewed
renewed_next new n list l x i e = rw (add-one, zero-add, i, e)

-- After those in front, the next ones.
pub renewed_join : (new next : ℕ → ℕ → ℕ) (a : ℕ) (list l : List ℕ) → l ≡ renewed new 0 a list → (m : ℕ)
    → ((r : ℕ) → r < m → next r (get_or list (a + r) 0) ≡ new (a + r) (get_or list (a + r) 0)) → renewed next a m l ≡ renewed new 0 (a + m) list
unfolding renewed
renewed_join new next a list l i zero h = rw add-zero i
renewed_join new next a list l i (suc m) h =
    let front = renewed_join new next a list l i m (λ r b. h r (omega arith)) in
    let kept : get_or l (a + m) 0 ≡ get_or list (a + m) 0 = rw i (renewed_later new 0 a list (a + m) (omega arith)) in
    rw (add-suc, zero-add, front, kept, h m (omega arith))

-- Zeros written over a part are that part made anew.
pub zeros_renewed : (first n m : ℕ) (list : List ℕ) → n ≤ m → first + m ≤ length list
    → paste list first (replicate m 0) n ≡ renewed (λ row count. 0) first n list
unfolding renewed
zeros_renewed first zero m list h l = sym (paste-zero list first (replicate m 0))
zeros_renewed first (suc n) m list h l =
    sym (paste-suc list first (replicate m 0) n 0 (omega arith) (omega (arith, length-replicate {A = ℕ} m 0)))
    ∙ rw (zeros_at m n, zeros_renewed first n m list (omega arith) l)
