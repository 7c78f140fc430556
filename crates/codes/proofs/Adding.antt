-- Bytes put one after another in a sequence: how many there are then, and what it holds. Assumes nothing.
use mathlib.Core.Path.{◌≡◌, refl, sym, ap, ◌∙◌}
use mathlib.Core.List.{List, [], ◌∷◌, ◌++◌, append-nil}
use Prim.Native.Nat.{ℕ, suc, ◌+◌, ◌-◌, ◌≤◌}
use native.Mathlib.Nat.{add-zero}
use native.Mathlib.Omega.{arith}
use lib.ListN.{length, take, drop, replicate, length-append}
use Rattle.std.proofs.lemmas.List.{drop-replicate}
use lib.Seq.{append_snoc, set-append_seam, take-append_seam}
use Rattle.codes.specs.declared.Sequence.{Sequence}
use Rattle.codes.specs.Sequences.{holding, adding}

pub adding_length : (l : List ℕ) (s : Sequence) → (adding s l).length ≡ s.length + length l
unfolding adding
adding_length [] s = sym (add-zero s.length)
adding_length (b ∷ l) s = adding_length l _ ∙ omega arith

pub adding_append : (l : List ℕ) (s : Sequence) (m : List ℕ) → adding (adding s l) m ≡ adding s (l ++ m)
unfolding adding
adding_append [] s m = refl
adding_append (b ∷ l) s m = adding_append l _ m

one_held : (l : List ℕ) (b : ℕ) → length l ≤ 7 → adding (holding l) (b ∷ []) ≡ holding (l ++ b ∷ [])
unfolding adding holding
one_held l b h =
    let free : 8 - length l ≡ suc (8 - length (l ++ b ∷ [])) = rw length-append (omega arith) in
    rw (free, set-append_seam, length-append, append_snoc)

pub adding_holding : (l m : List ℕ) → length l + length m ≤ 8 → adding (holding l) m ≡ holding (l ++ m)
unfolding adding
adding_holding l [] h = rw append-nil
adding_holding l (b ∷ m) h =
    ap (λ (s : Sequence). adding s m) (one_held l b (omega arith))
    ∙ rw append_snoc at (adding_holding (l ++ b ∷ []) m (rw length-append (omega arith)))

pub none_held : (s : Sequence) → s ≡ holding [] → s.length ≡ 0
unfolding holding
none_held s e = rw e

-- Of eight zeros the last stand behind the bytes that are laid over the first.
pub zeros_behind : (n : ℕ) → drop {A = ℕ} n (0 ∷ 0 ∷ 0 ∷ 0 ∷ 0 ∷ 0 ∷ 0 ∷ 0 ∷ []) ≡ replicate (8 - n) 0
zeros_behind n = drop-replicate n 8 0

-- For those who take a sequence apart: its length and its bytes.
pub holding_length : (l : List ℕ) → (holding l).length ≡ length l
unfolding holding
holding_length l = refl

pub holding_bytes : (l : List ℕ) → take (holding l).length (holding l).bytes ≡ l
unfolding holding
holding_bytes l = take-append_seam l (replicate (8 - length l) 0)
