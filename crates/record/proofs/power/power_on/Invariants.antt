-- `record::power::power_on` meets its contract. The loop's invariant: the positions of the map below this one are filled. Assumes nothing.
use mathlib.Core.Path.{◌≡◌}
use Rattle.record.proofs.Filling.{filled_to}
use Rattle.record.proofs.power.power_on.Given as goal

abbrev pub invariant-loop-position : goal.invariant-loop-position
invariant-loop-position l = l.map ≡ filled_to l.position l.initial.map
