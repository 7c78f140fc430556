-- `queue::arrays::is_tidy_array` meets its contract. The loop's invariant: the array is in range if what was seen is good and zeros stand
-- behind its bytes from place i on. Assumes nothing.
use Rattle.queue.proofs.Checking.{Seen}
use Rattle.queue.proofs.arrays.is_tidy_array.Given as goal

abbrev pub invariant-loop-i : goal.invariant-loop-i
invariant-loop-i g l = Seen g.row.PLACES l.bytes l.count l.good l.i
