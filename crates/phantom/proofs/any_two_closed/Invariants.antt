-- `phantom::any_two_closed` meets its contract. The loop's invariant: the scan has a column with two closed rows if
-- one was found or one of the columns still to come is such. Assumes nothing.
use Rattle.std.proofs.Common.{◌≡◌, drop}
use Rattle.basics.specs.Choice.{either}
use Rattle.phantom.specs.Phantom.{any_two_closed}
use Rattle.phantom.proofs.any_two_closed.Given as goal

abbrev pub invariant-loop-rows : goal.invariant-loop-rows
invariant-loop-rows l = any_two_closed l.scan ≡ either l.any (any_two_closed (drop l.rows-index l.scan))
