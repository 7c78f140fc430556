-- A byte folded onto itself, with the bit that is left turned, is its parity: computed for each of the 256. Assumes nothing.
use mathlib.Core.Path.{◌≡◌, refl}
use Prim.Native.Nat.{ℕ, ◌/◌, ◌<◌}
use lib.Bits.{bit_xor, bit_and}
use lib.Count.{ones, ones_in}
use Rattle.basics.proofs.Tables.{values_below, alike_below}
use Rattle.frames.specs.Frames.{parity}

-- The bits from a place on, laid over the lowest ones.
abbrev fold : ℕ → ℕ → ℕ
fold b place = bit_xor b (b / place)

abbrev folded : ℕ → ℕ
folded b = bit_xor (bit_and (fold (fold (fold b 16) 4) 2) 1) 1

each_byte : values_below folded 256 ≡ values_below parity 256
unfolding parity ones ones_in
each_byte = refl

pub folded_parity : (b : ℕ) → b < 256 → folded b ≡ parity b
folded_parity = alike_below folded parity 256 each_byte
