-- What the digits of a line stand for are bytes. Assumes nothing.
use mathlib.Core.Path.{◌≡◌, refl, ap₂}
use mathlib.Core.Bool.{true}
use mathlib.Core.List.{List, ◌∷◌}
use Prim.Native.Nat.{ℕ, zero, suc, ◌+◌, ◌*◌, ◌%◌, ◌<◌}
use native.Mathlib.Omega.{arith}
use Rattle.digits.specs.Digits.{all_digits, byte_at, bytes_from}
use Rattle.digits.proofs.Characters.{value_at_below_16}
use Rattle.dock.specs.Calls.{as_bytes}

byte_small : (line : List ℕ) (i : ℕ) → all_digits line ≡ true → byte_at line i < 256
unfolding byte_at
byte_small line i digits = omega (arith, value_at_below_16 line (2 * i) digits, value_at_below_16 line (2 * i + 1) digits)

pub bytes_are_bytes : (line : List ℕ) → all_digits line ≡ true → (n i : ℕ) → as_bytes (bytes_from line i n) ≡ bytes_from line i n
unfolding bytes_from
bytes_are_bytes line digits zero i = refl
bytes_are_bytes line digits (suc n) i =
    let small = byte_small line i digits in
    let same : byte_at line i % 256 ≡ byte_at line i = omega arith in
    ap₂ (λ (b : ℕ) (l : List ℕ). b ∷ l) same (bytes_are_bytes line digits n (suc i))
