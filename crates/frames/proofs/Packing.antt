-- The parts of a frame, shifted and joined as the code does it, are the sum that the definition gives. Assumes nothing.
use mathlib.Core.Path.{◌≡◌}
use Prim.Native.Nat.{ℕ, ◌+◌, ◌*◌, ◌%◌, ◌≤◌, ◌<◌}
use native.Mathlib.Omega.{arith}
use lib.Bits.{bit_or, or_shifted_r}
use Rattle.frames.specs.Frames.{parity, packed_of}

pub parity_small : (b : ℕ) → parity b ≤ 1
unfolding parity
parity_small b = omega arith

-- Each part stands above the bits of those before it, so "or" is their sum; none is shifted out of sixteen bits.
pub packed_by_shifts : (b p : ℕ) → b < 256 → p ≡ parity b
    → bit_or (bit_or (b * 2 % 65536) (p * 512 % 65536)) 1024 ≡ packed_of b
unfolding packed_of
packed_by_shifts b p h e =
    let small : p ≤ 1 = rw e (parity_small b) in
    let byte : b * 2 % 65536 ≡ b * 2 = omega arith in
    let odd : p * 512 % 65536 ≡ p * 512 = omega arith in
    let two : bit_or (b * 2) (p * 512) ≡ p * 512 + b * 2 = or_shifted_r p 9 (b * 2) (omega arith) in
    let all : bit_or (p * 512 + b * 2) 1024 ≡ 1024 + (p * 512 + b * 2) = or_shifted_r 1 10 (p * 512 + b * 2) (omega arith) in
    rw (byte, odd, two, all) (omega arith)
