-- `maps::has_double` meets its contract. The loop's invariant: the map has a double if one was met, or if the entries still to come show
-- one, a key that has its mark or one that stands twice among them; there are 126 places for marks, and 0 has none. Assumes nothing.
use Prim.Native.Nat.{suc}
use mathlib.Core.Path.{◌≡◌}
use lib.ListN.{length, drop, get_or}
use Rattle.basics.specs.Choice.{either}
use Rattle.keys.specs.Keys.{last_key}
use Rattle.maps.specs.Maps.{has_double}
use Rattle.maps.proofs.Marks.{to_find}
use Rattle.maps.proofs.has_double.Given as goal

abbrev pub invariant-loop-key : goal.invariant-loop-key
invariant-loop-key l =
    (length l.seen ≡ suc last_key) × (get_or l.seen 0 0 ≡ 0) × (has_double l.map ≡ either l.double (to_find l.seen (drop l.key-index l.map)))
