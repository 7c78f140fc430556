-- `contacts::shows` meets its contract. The loop's invariant: the scan shows what counts if it did so far and does from
-- column i on. Assumes nothing.
use mathlib.Core.Path.{◌≡◌}
use lib.ListN.{drop}
use Rattle.basics.specs.Choice.{both}
use Rattle.basics.specs.Lists.{same}
use Rattle.contacts.proofs.shows.Given as goal

abbrev pub invariant-loop-i : goal.invariant-loop-i
invariant-loop-i l = same l.scan l.closed ≡ both l.all (same (drop l.i l.scan) (drop l.i l.closed))
