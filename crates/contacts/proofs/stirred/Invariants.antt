-- `contacts::stirred` meets its contract. The loop's invariant: the counts of the rows below r are new, the others as they
-- were, and the rows below r that turn are packed. Assumes nothing.
use Prim.Native.Nat.{◌*◌}
use mathlib.Core.Path.{◌≡◌}
use Rattle.contacts.specs.Counts.{renewed}
use Rattle.contacts.proofs.Bytes.{packed_to}
use Rattle.contacts.proofs.Columns.{row_count, row_turns}
use Rattle.contacts.proofs.stirred.Given as goal

abbrev pub invariant-loop-r : goal.invariant-loop-r
invariant-loop-r l =
    (l.counts ≡ renewed (row_count l.column l.seen l.closed l.initial.counts) (8 * l.column) l.r l.initial.counts)
    × (l.turned ≡ packed_to l.r (row_turns l.column l.seen l.closed l.initial.counts))
