-- The marked examples (docs/RULES.md, section 10): what a definition gives, and what the rules say that it gives. Assumes nothing.
use Rattle.std.specs.Prelude.{ℕ, Bool, true, false, List, [], ◌∷◌, ◌++◌, replicate}
use Rattle.basics.specs.Choice.{pick}
use Rattle.phantom.specs.Phantom.{is_phantom}
use Rattle.keying.specs.Repeat.{delay_of, interval_of}
use Rattle.keys.specs.Keys.{mark_of}
use Rattle.queue.specs.Queues.{pushed_to}
use Rattle.frames.specs.Frames.{packed_of}
use Rattle.codes.specs.declared.Action.TheVariants.{Press, Release}
use Rattle.codes.specs.Codes.{encode}

-- An example: the numbers that the definitions give, and those that they are to give.
pub record Example : Type 0 where
  pub given : List ℕ
  pub stated : List ℕ

abbrev example : List ℕ → List ℕ → Example
example given stated = record { given = given; stated = stated }

-- Yes as 1, no as 0.
abbrev as_number : Bool → ℕ
as_number answer = pick answer 1 0

-- A scan whose first two columns are these, with nothing closed elsewhere.
abbrev two_columns : ℕ → ℕ → List ℕ
two_columns first second = first ∷ second ∷ replicate 16 0

-- A queue of n bytes 1C, to which a release of A in set 2 is added.
abbrev release_behind : ℕ → List ℕ
release_behind n = pushed_to (mark_of 2) (replicate n 0x1c) (0xf0 ∷ 0x1c ∷ [])

-- Held modifiers, by their numbers.
abbrev left_shift : ℕ
left_shift = 1

abbrev both_shifts : ℕ
both_shifts = 3

-- All of them, P1 to P12.
unfoldable pub examples : List Example
examples =
    -- P1 to P4: frames.
    example (packed_of 0xfa ∷ []) (0x7f4 ∷ []) ∷
    example (packed_of 0x01 ∷ []) (0x402 ∷ []) ∷
    example (packed_of 0xff ∷ []) (0x7fe ∷ []) ∷
    example (packed_of 0x00 ∷ []) (0x600 ∷ []) ∷
    -- P5 and P6: delay and interval of a rate.
    example (delay_of 0x2b ∷ interval_of 0x2b ∷ []) (120 ∷ 22 ∷ []) ∷
    example (delay_of 0x7f ∷ interval_of 0x7f ∷ []) (240 ∷ 120 ∷ []) ∷
    -- P7 and P8: two columns that share two rows, and two that do not.
    example (as_number (is_phantom (two_columns 0x03 0x03)) ∷ []) (1 ∷ []) ∷
    example (as_number (is_phantom (two_columns 0x03 0x05)) ∷ []) (0 ∷ []) ∷
    -- P9 and P10: UP in set 2 with both SHIFTs, pressed and released.
    example (encode 2 65 Press 0 both_shifts false) (0xe0 ∷ 0xf0 ∷ 0x12 ∷ 0xe0 ∷ 0xf0 ∷ 0x59 ∷ 0xe0 ∷ 0x75 ∷ []) ∷
    example (encode 2 65 Release 0 both_shifts false) (0xe0 ∷ 0xf0 ∷ 0x75 ∷ 0xe0 ∷ 0x59 ∷ 0xe0 ∷ 0x12 ∷ []) ∷
    -- P11: INS in set 1 with SHIFT_L and Num Lock.
    example (encode 1 59 Press 0 left_shift true) (0xe0 ∷ 0x52 ∷ []) ∷
    -- P12: a sequence of two bytes behind 15, which it does not fit, and behind 14.
    example (release_behind 15) (replicate 14 0x1c ++ 0x00 ∷ []) ∷
    example (release_behind 14) (replicate 14 0x1c ++ 0xf0 ∷ 0x1c ∷ []) ∷
    []
