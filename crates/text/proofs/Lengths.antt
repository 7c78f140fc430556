-- What the length of a line says of its kind, and its kind of its length. Assumes nothing.
use mathlib.Core.Path.{◌≡◌}
use mathlib.Core.List.{List}
use Prim.Native.Nat.{ℕ, ◌<◌}
use native.Mathlib.Omega.{arith}
use lib.ListN.{length}
use Rattle.std.proofs.lemmas.Bool.Decides.{nat_tests}
use Rattle.text.specs.declared.Kind.TheVariants.{Frame, Scan, Map, Malformed}
use Rattle.digits.specs.Digits.{Digits}
use Rattle.text.specs.Lines.{kind_of}

module _ (line : List ℕ) where
  -- A line that is longer than a map's is malformed, whatever its characters.
  pub overlong_malformed : 288 < length line → kind_of line ≡ Malformed
  unfolding kind_of
  overlong_malformed h = grind (arith, nat_tests)

  -- The other way round: a frame, a scan or a map is so many digits.
  pub frame_is : kind_of line ≡ Frame → Digits 3 line
  unfolding kind_of
  frame_is e = grind (arith, nat_tests)

  pub scan_is : kind_of line ≡ Scan → Digits 36 line
  unfolding kind_of
  scan_is e = grind (arith, nat_tests)

  pub map_is : kind_of line ≡ Map → Digits 288 line
  unfolding kind_of
  map_is e = grind (arith, nat_tests)
