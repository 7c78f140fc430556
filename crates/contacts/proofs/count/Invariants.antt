-- `contacts::count` meets its contract. The loop's invariant: the columns so far are counted, the others as they were.
-- Assumes nothing.
use mathlib.Core.Path.{◌≡◌}
use Rattle.contacts.specs.Counts.{contacts}
use Rattle.contacts.proofs.Passes.{counted_to}
use Rattle.contacts.proofs.count.Given as goal

abbrev pub invariant-loop-column : goal.invariant-loop-column
invariant-loop-column l = contacts l.closed l.counts ≡ counted_to (contacts l.initial.closed l.initial.counts) l.scan l.column
