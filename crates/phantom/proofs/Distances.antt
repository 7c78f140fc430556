-- Pairs of columns by their distance: the columns with open ones behind them, and what each turn of the searches finds out.
-- Assumes nothing.
use Rattle.std.proofs.Common.{◌≡◌, ℕ, zero, suc, ◌+◌, ◌≤◌, Bool, true, false, ◌||◌, List, get_or, refl, sym, ap, ◌∙◌, le_antisymm, add-one, arith}
use Rattle.basics.specs.Choice.{either}
use Rattle.phantom.specs.Phantom.{shares, shares_at}

-- A flag that a test raises.
raised : (flag test : Bool) → (flag || test) ≡ either flag test
raised true test = refl
raised false test = refl

-- The flag after a turn in which an `if` may raise it.
pub raised_then : (flag test r : Bool) → test ≡ true → r ≡ true → r ≡ (flag || test)
raised_then true test r t e = e
raised_then false test r t e = e ∙ sym t

pub raised_else : (flag test r : Bool) → test ≡ false → r ≡ flag → r ≡ (flag || test)
raised_else true test r t e = e
raised_else false test r t e = e ∙ sym t

-- One more pair of a distance.
pub pair_more : (d : ℕ) (l : List ℕ) (j : ℕ) (any : Bool) → any ≡ shares_at j d l
    → (b : Bool) → b ≡ shares (get_or l j 0) (get_or l (j + d) 0) → (any || b) ≡ shares_at (j + 1) d l
unfolding shares_at
pair_more d l j any i b e = rw (add-one, ← i, ← e) (raised any b)

pub no_pair : (d : ℕ) (l : List ℕ) → false ≡ shares_at 0 d l
unfolding shares_at
no_pair d l = refl

pub all_pairs : (d : ℕ) (l : List ℕ) (j n : ℕ) (any : Bool) → any ≡ shares_at j d l → j ≤ n → n ≤ j → any ≡ shares_at n d l
all_pairs d l j n any i a b = i ∙ ap (λ (k : ℕ). shares_at k d l) (le_antisymm a b)

-- The last two columns share, or one of sixteen with a column less than n behind it.
unfoldable pub shares_within : ℕ → List ℕ → Bool
shares_within zero l = shares (get_or l 16 0) (get_or l 17 0)
shares_within (suc zero) l = shares (get_or l 16 0) (get_or l 17 0)
shares_within (suc (suc n)) l = either (shares_within (suc n) l) (shares_at 16 (suc n) l)

pub last_two : (l : List ℕ) (b : Bool) → b ≡ shares (get_or l 16 0) (get_or l 17 0) → b ≡ shares_within 1 l
unfolding shares_within
last_two l b e = e

within_next : (d : ℕ) (l : List ℕ) → 1 ≤ d → shares_within (d + 1) l ≡ either (shares_within d l) (shares_at 16 d l)
unfolding shares_within
within_next zero l h = absurd (omega arith)
within_next (suc d) l h = rw add-one

-- One more distance.
pub distance_more : (l : List ℕ) (d : ℕ) → 1 ≤ d → (any : Bool) → any ≡ shares_within d l → (b : Bool) → b ≡ shares_at 16 d l
    → (any || b) ≡ shares_within (d + 1) l
distance_more l d h any i b e = rw (within_next d l h, ← i, ← e) (raised any b)
