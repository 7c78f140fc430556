-- The bytes that a line of digits stands for: how many, which, and how a loop puts them into an array. Assumes nothing.
use mathlib.Core.Path.{◌≡◌, refl, sym, ap, ◌∙◌}
use mathlib.Core.List.{List}
use Prim.Native.Nat.{ℕ, zero, suc, ◌+◌, ◌≤◌, ◌<◌}
use native.Mathlib.Nat.{add-zero, add-suc, suc-add, zero-add, le_of_suc-le-suc, not-suc-le-zero}
use native.Mathlib.Omega.{arith}
use borrow.Author.Count.{below_more}
use lib.ListN.{length, get_or, set, length-set}
use lib.Seq.{ext_get_or, get_or-set_same, get_or-set_other}
use Rattle.digits.specs.Digits.{byte_at, bytes_from}

length_bytes : (line : List ℕ) (i n : ℕ) → length (bytes_from line i n) ≡ n
unfolding bytes_from
length_bytes line i zero = refl
length_bytes line i (suc n) = ap suc (length_bytes line (suc i) n)

bytes_at_from : (line : List ℕ) (i n k : ℕ) → k < n → get_or (bytes_from line i n) k 0 ≡ byte_at line (i + k)
unfolding bytes_from
bytes_at_from line i zero k h = absurd (not-suc-le-zero h)
bytes_at_from line i (suc n) zero h = rw add-zero
bytes_at_from line i (suc n) (suc k) h = rw (add-suc, ← suc-add) (bytes_at_from line (suc i) n k (le_of_suc-le-suc h))

bytes_at : (line : List ℕ) (n k : ℕ) → k < n → get_or (bytes_from line 0 n) k 0 ≡ byte_at line k
bytes_at line n k h = bytes_at_from line 0 n k h ∙ ap (byte_at line) (zero-add k)

-- The invariant of a loop that fills n bytes: those below i are the line's.
abbrev pub FilledUpTo : ℕ → List ℕ → List ℕ → ℕ → Type 0
FilledUpTo n line bytes i = record { size : length bytes ≡ n; filled : (k : ℕ) → k < i → get_or bytes k 0 ≡ byte_at line k }

module _ (n : ℕ) (line bytes : List ℕ) (i : ℕ) (f : FilledUpTo n line bytes i) where
  pub filled_more : i < n → (byte : ℕ) → byte ≡ byte_at line i → FilledUpTo n line (set bytes i byte) (i + 1)
  filled_more h byte e =
      record {
        size = simp length-set f.size;
        filled = below_more _ i
            (λ k b. get_or-set_other bytes i k byte 0 (λ (q : k ≡ i). omega arith) ∙ f.filled k b)
            (get_or-set_same bytes i byte 0 (omega (arith, f.size)) ∙ e);
      }

  pub filled_all : n ≤ i → bytes ≡ bytes_from line 0 n
  filled_all h =
      ext_get_or 0 bytes (bytes_from line 0 n) (f.size ∙ sym (length_bytes line 0 n))
      (λ k b. f.filled k (omega (arith, f.size)) ∙ sym (bytes_at line n k (omega (arith, f.size))))
