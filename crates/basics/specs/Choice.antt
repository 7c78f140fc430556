-- Choosing by a test: `pick test yes no`, and the small tests that the definitions share. Assumes nothing.
use Rattle.std.specs.Prelude.{ℕ, Bool, true, false, leb}

-- The first where the test holds, else the second.
abbrev pub pick : {A : Type 0} → Bool → A → A → A
pick true x y = x
pick false x y = y

-- Both tests hold.
abbrev pub both : Bool → Bool → Bool
both true b = b
both false b = false

-- One of two tests holds, or both.
abbrev pub either : Bool → Bool → Bool
either true b = true
either false b = b

-- A number from low to high, both included.
abbrev pub between : ℕ → ℕ → ℕ → Bool
between low high n = both (leb low n) (leb n high)
