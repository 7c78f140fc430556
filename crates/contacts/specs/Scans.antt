-- Scans (docs/RULES.md, section 5): 18 bytes, a column each; bit r of column c is the contact at position 8 c + r. Assumes nothing.
use Rattle.std.specs.Prelude.{ℕ, ◌/◌, ◌%◌, ◌^◌, List, get_or}

-- The contact in a row of a column: 1 closed, 0 open.
abbrev pub contact_in : ℕ → ℕ → ℕ
contact_in column row = column / 2 ^ row % 2

-- The contact at a position.
unfoldable pub contact : List ℕ → ℕ → ℕ
contact scan position = contact_in (get_or scan (position / 8) 0) (position % 8)
