-- The modifier keys that are held, as a number (docs/RULES.md, section 3): 1 left SHIFT, 2 right SHIFT, 4 left CTRL,
-- 8 right CTRL, 16 left ALT, 32 right ALT, added up. Assumes nothing.
use Rattle.std.specs.Prelude.{ℕ, ◌/◌, ◌%◌, Bool, not, eqb}

-- The two keys of a kind that are held: 0 none, 1 the left, 2 the right, 3 both.
abbrev pub shifts : ℕ → ℕ
shifts m = m % 4

abbrev pub controls : ℕ → ℕ
controls m = m / 4 % 4

abbrev pub alts : ℕ → ℕ
alts m = m / 16 % 4

-- A SHIFT, a CTRL, an ALT is held.
abbrev pub shift_held : ℕ → Bool
shift_held m = not (eqb (shifts m) 0)

abbrev pub control_held : ℕ → Bool
control_held m = not (eqb (controls m) 0)

abbrev pub alt_held : ℕ → Bool
alt_held m = not (eqb (alts m) 0)
