-- Unpacking undoes packing, and of the 2048 numbers just the frames of the 256 bytes are whole. Assumes nothing.
use mathlib.Core.Path.{◌≡◌}
use mathlib.Core.Bool.{true}
use Prim.Native.Nat.{ℕ, ◌/◌, ◌≤◌, ◌<◌}
use native.Mathlib.Nat.{div-div-eq-div-mul}
use native.Mathlib.Omega.{arith}
use lib.Dec.{T, eqb, eqb→eq}
use borrow.Author.Tests.{le-ltb, eq-eqb}
use Rattle.basics.specs.Choice.{both}
use Rattle.basics.proofs.Tables.{both_left, both_right}
use Rattle.std.specs.Prelude.{Ok}
use Rattle.frames.specs.Frames.{parity, packed_of, bit, byte_of, whole, unpacked_of}
use Rattle.frames.proofs.Packing.{parity_small}

module _ (b : ℕ) (h : b < 256) where
  frame_small : packed_of b ≤ 2047
  unfolding packed_of
  frame_small = omega (arith, parity_small b)

  start_bit : bit (packed_of b) 0 ≡ 0
  unfolding packed_of
  start_bit = omega (arith, parity_small b)

  byte_bits : byte_of (packed_of b) ≡ b
  unfolding packed_of
  byte_bits = omega (arith, parity_small b)

  parity_bit : bit (packed_of b) 9 ≡ parity b
  unfolding packed_of
  parity_bit = omega (arith, parity_small b)

  stop_bit : bit (packed_of b) 10 ≡ 1
  unfolding packed_of
  stop_bit = omega (arith, parity_small b)

  pub packed_is_whole : whole (packed_of b) ≡ true
  unfolding whole
  packed_is_whole = simp (byte_bits, eq-eqb _ _ start_bit, eq-eqb _ _ parity_bit, eq-eqb _ _ stop_bit)

pub pack_unpack : (b : ℕ) → b < 256 → unpacked_of (packed_of b) ≡ Ok b
unfolding unpacked_of
pack_unpack b h = simp (le-ltb _ _ (frame_small b h), packed_is_whole b h, byte_bits b h)

whole_bits : (n : ℕ) → T (whole n) → (bit n 0 ≡ 0) × (bit n 9 ≡ parity (byte_of n)) × (bit n 10 ≡ 1)
unfolding whole
whole_bits n t =
    let start = eqb (bit n 0) 0 in
    let odd = eqb (bit n 9) (parity (byte_of n)) in
    let stop = eqb (bit n 10) 1 in
    let rest = both_right start (both odd stop) t in
    (eqb→eq _ _ (both_left start (both odd stop) t), eqb→eq _ _ (both_left odd stop rest), eqb→eq _ _ (both_right odd stop rest))

pub whole_is_packed : (n : ℕ) → n ≤ 2047 → whole n ≡ true → n ≡ packed_of (byte_of n)
unfolding packed_of
whole_is_packed n h w =
    let above-byte : n / 2 / 256 ≡ n / 512 = div-div-eq-div-mul n 2 256 in
    let above-parity : n / 512 / 2 ≡ n / 1024 = div-div-eq-div-mul n 512 2 in
    omega (arith, whole_bits n (rw w tt))
