-- A column without its lowest closed row has another just if two or more are closed: computed for each of the 256. Assumes nothing.
use Rattle.std.proofs.Common.{◌≡◌, ℕ, ◌+◌, ◌%◌, ◌<◌, Bool, not, eqb, refl}
use lib.Bits.{bit_and}
use lib.Count.{ones, ones_in}
use Rattle.basics.proofs.Tables.{values_below, alike_below}
use Rattle.phantom.specs.Phantom.{two_closed}

-- In the number before, the lowest closed row is open and those below it, which were open, are closed; all above are the same.
abbrev another : ℕ → Bool
another rows = not (eqb (bit_and rows ((rows + 255) % 256)) 0)

each_column : values_below another 256 ≡ values_below two_closed 256
unfolding ones ones_in
each_column = refl

pub another_two : (rows : ℕ) → rows < 256 → another rows ≡ two_closed rows
another_two = alike_below another two_closed 256 each_column
