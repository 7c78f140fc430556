-- Frames as numbers (docs/RULES.md, section 2). Assumes nothing.
use Rattle.std.specs.Prelude.{ℕ, ◌+◌, ◌*◌, ◌/◌, ◌%◌, ◌^◌, Bool, [], ◌∷◌, eqb, ltb, Result, Ok, Err}
use Rattle.std.specs.Int.Count.{ones}
use Rattle.basics.specs.Choice.{pick, both}
use Rattle.basics.specs.Said.{Said, accepted, refused}
use Rattle.frames.specs.declared.FrameError.{FrameError}
use Rattle.frames.specs.declared.FrameError.TheVariants.{Broken, TooLarge}

-- The parity bit of a byte makes the number of ones of the two odd.
unfoldable pub parity : ℕ → ℕ
parity b = (ones b + 1) % 2

-- The frame of a byte: start 0 at bit 0, the byte from bit 1 on, its parity at bit 9, stop 1 at bit 10.
unfoldable pub packed_of : ℕ → ℕ
packed_of b = 0 * 2 ^ 0 + b * 2 ^ 1 + parity b * 2 ^ 9 + 1 * 2 ^ 10

-- The bit of a number at a place.
abbrev pub bit : ℕ → ℕ → ℕ
bit n i = n / 2 ^ i % 2

-- The byte in a frame: the eight bits from bit 1 on.
abbrev pub byte_of : ℕ → ℕ
byte_of n = n / 2 ^ 1 % 2 ^ 8

-- A frame is whole if its start, parity and stop bits are right.
unfoldable pub whole : ℕ → Bool
whole n = both (eqb (bit n 0) 0) (both (eqb (bit n 9) (parity (byte_of n))) (eqb (bit n 10) 1))

-- What unpacking gives: a number over 2047 is refused, a broken frame is told from a whole one.
unfoldable pub unpacked_of : ℕ → Result ℕ FrameError
unpacked_of n = pick (ltb 2047 n) (Err TooLarge) (pick (whole n) (Ok (byte_of n)) (Err Broken))

-- What each answer says (docs/RULES.md, section 9): a whole frame has its byte, a broken one has none.
abbrev pub unpacked_says : Result ℕ FrameError → Said
unpacked_says (Ok byte) = accepted (byte ∷ [])
unpacked_says (Err Broken) = accepted []
unpacked_says (Err TooLarge) = refused 5

-- What is said of a number, by the table.
unfoldable pub unpacked_said : ℕ → Said
unpacked_said n = pick (ltb 2047 n) (refused 5) (accepted (pick (whole n) (byte_of n ∷ []) []))
