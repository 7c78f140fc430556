-- Eight contacts in a byte: packing and looking at a row undo each other, and packing can go row by row. Assumes nothing.
use mathlib.Core.Path.{◌≡◌, refl, sym, ap, ◌∙◌}
use Prim.Native.Nat.{ℕ, zero, suc, ◌+◌, ◌*◌, ◌/◌, ◌%◌, ◌^◌, ◌≤◌, ◌<◌}
use native.Mathlib.Nat.{div-div-eq-div-mul, div-add-mod', add_comm, mul-le-mul_right, pow-suc}
use native.Mathlib.Numerals.{add-one}
use native.Mathlib.Omega.{arith}
use lib.Bits.{bit_or, bit_xor, or_shifted_r, xor_shr, xor_mod}
use lib.Dec.{eqb}
use Rattle.contacts.specs.Scans.{contact_in}
use Rattle.contacts.specs.Counts.{packed}

-- A row of the exclusive or of two bytes is that of their rows, and 0 exactly if they are the same.
pub row_xor : (a b row : ℕ) → contact_in (bit_xor a b) row ≡ bit_xor (contact_in a row) (contact_in b row)
row_xor a b row = ap (λ (n : ℕ). n % 2) (xor_shr a b row) ∙ xor_mod (a / 2 ^ row) (b / 2 ^ row) 1

pub row_same : (a b row : ℕ) → eqb (contact_in (bit_xor a b) row) 0 ≡ eqb (contact_in a row) (contact_in b row)
row_same a b row = ap (λ (n : ℕ). eqb n 0) (row_xor a b row) ∙ bits (contact_in a row) (contact_in b row) (omega arith) (omega arith)
  where
    bits : (x y : ℕ) → x < 2 → y < 2 → eqb (bit_xor x y) 0 ≡ eqb x y
    bits zero zero h l = refl
    bits zero (suc zero) h l = refl
    bits (suc zero) zero h l = refl
    bits (suc zero) (suc zero) h l = refl
    bits zero (suc (suc y)) h l = absurd (omega arith)
    bits (suc zero) (suc (suc y)) h l = absurd (omega arith)
    bits (suc (suc x)) y h l = absurd (omega arith)

-- The packed byte of each row is that row.
pub packed_row : (f : ℕ → ℕ) → ((i : ℕ) → f i < 2) → (r : ℕ) → r < 8 → contact_in (packed f) r ≡ f r
packed_row f h zero b = omega (arith, h 0)
packed_row f h (suc zero) b = omega (arith, h 0, h 1)
packed_row f h (suc (suc zero)) b = omega (arith, h 0, h 1, h 2)
packed_row f h (suc (suc (suc zero))) b = omega (arith, h 0, h 1, h 2, h 3)
packed_row f h (suc (suc (suc (suc zero)))) b = omega (arith, h 0, h 1, h 2, h 3, h 4)
packed_row f h (suc (suc (suc (suc (suc zero))))) b = omega (arith, h 0, h 1, h 2, h 3, h 4, h 5)
packed_row f h (suc (suc (suc (suc (suc (suc zero)))))) b = omega (arith, h 0, h 1, h 2, h 3, h 4, h 5, h 6)
packed_row f h (suc (suc (suc (suc (suc (suc (suc zero))))))) b = omega (arith, h 0, h 1, h 2, h 3, h 4, h 5, h 6, h 7)
packed_row f h (suc (suc (suc (suc (suc (suc (suc (suc r)))))))) b = omega arith

pub packed_up_to_255 : (f : ℕ → ℕ) → ((i : ℕ) → f i < 2) → packed f ≤ 255
packed_up_to_255 f h = omega (arith, h 0, h 1, h 2, h 3, h 4, h 5, h 6, h 7)

-- A byte's own rows packed are the byte: each half of it is twice the next half and a row.
pub packed_rows : (byte : ℕ) → byte < 256 → packed (contact_in byte) ≡ byte
packed_rows byte h =
    let top : byte / 128 / 2 ≡ 0 = omega arith in
    let halves : (k : ℕ) → byte / k ≡ byte / k / 2 * 2 + byte / k % 2 = λ k. sym (div-add-mod' (byte / k) 2) in
    sum _ _ _ _ _ _ _ _ _ _ _ _ _ _ _ _ (whole ∙ halves 1) (next 1 ∙ halves 2) (next 2 ∙ halves 4) (next 4 ∙ halves 8) (next 8 ∙ halves 16)
    (next 16 ∙ halves 32) (next 32 ∙ halves 64) (next 64 ∙ halves 128 ∙ ap (λ (n : ℕ). n * 2 + byte / 128 % 2) top)
  where
    whole : byte ≡ byte / 1
    whole = omega arith

    next : (k : ℕ) → byte / k / 2 ≡ byte / (k * 2)
    next k = div-div-eq-div-mul byte k 2

    sum : (b p q r s t u v b0 b1 b2 b3 b4 b5 b6 b7 : ℕ) → b ≡ p * 2 + b0 → p ≡ q * 2 + b1 → q ≡ r * 2 + b2 → r ≡ s * 2 + b3
        → s ≡ t * 2 + b4 → t ≡ u * 2 + b5 → u ≡ v * 2 + b6 → v ≡ 0 * 2 + b7
        → b0 + 2 * b1 + 4 * b2 + 8 * b3 + 16 * b4 + 32 * b5 + 64 * b6 + 128 * b7 ≡ b
    sum b p q r s t u v b0 b1 b2 b3 b4 b5 b6 b7 e0 e1 e2 e3 e4 e5 e6 e7 = omega arith

-- Two choices of rows that agree are packed alike.
pub packed_same : (f g : ℕ → ℕ) → ((r : ℕ) → r < 8 → f r ≡ g r) → packed f ≡ packed g
packed_same f g h =
    rw (
      h 0 (omega arith),
      h 1 (omega arith),
      h 2 (omega arith),
      h 3 (omega arith),
      h 4 (omega arith),
      h 5 (omega arith),
      h 6 (omega arith),
      h 7 (omega arith),
    )

-- The first n rows packed.
unfoldable pub packed_to : ℕ → (ℕ → ℕ) → ℕ
packed_to zero at = 0
packed_to (suc n) at = packed_to n at + at n * 2 ^ n

pub packed_none : (f : ℕ → ℕ) → 0 ≡ packed_to 0 f
unfolding packed_to
packed_none f = refl

pub packed_all : (f : ℕ → ℕ) → packed_to 8 f ≡ packed f
unfolding packed_to
packed_all f = omega arith

module _ (f : ℕ → ℕ) (h : (i : ℕ) → f i < 2) where
  packed_small : (n : ℕ) → packed_to n f < 2 ^ n
  unfolding packed_to
  packed_small zero = omega arith
  packed_small (suc n) =
      let row : f n * 2 ^ n ≤ 1 * 2 ^ n = mul-le-mul_right (2 ^ n) (omega (arith, h n)) in
      omega (arith, packed_small n, pow-suc 2 n)

  -- One more row: its bit is above those below it.
  pub packed_more : (r s : ℕ) → s ≡ packed_to r f → bit_or s (f r * 2 ^ r) ≡ packed_to (r + 1) f
  unfolding packed_to
  packed_more r s i = rw (i, add-one) (or_shifted_r (f r) r (packed_to r f) (packed_small r) ∙ add_comm (f r * 2 ^ r) (packed_to r f))
