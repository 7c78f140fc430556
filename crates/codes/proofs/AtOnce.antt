-- PAUSE sends all that it has at once only in sets 1 and 2. Assumes nothing.
use mathlib.Core.Path.{◌≡◌}
use mathlib.Core.Bool.{true}
use Prim.Native.Nat.{ℕ, ◌≤◌}
use native.Mathlib.Omega.{arith}
use Rattle.codes.specs.Codes.{pauses_at_once}

pub at_once_range : (set key : ℕ) → pauses_at_once set key ≡ true → (1 ≤ set) × (set ≤ 2)
at_once_range set key e = grind arith
