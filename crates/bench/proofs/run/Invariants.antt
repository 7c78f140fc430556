-- `bench::run` is safe and ends. After the lines up to `at`, at most four characters were written for each character used; each turn
-- uses at least a newline. The record stays in range. Assumes nothing.
use mathlib.Core.Path.{◌≡◌}
use mathlib.Core.Bool.{true}
use Prim.Native.Nat.{◌≤◌, ◌-◌, ◌*◌}
use lib.ListN.{length}
use Rattle.range.specs.Range.{in_range}
use Rattle.bench.proofs.run.Given as goal

abbrev pub invariant-loop-end : goal.invariant-loop-end
invariant-loop-end l =
    record { used : l.at ≤ l.end; inside : l.end ≤ length l.text; room : l.written ≤ 4 * l.at; range : in_range l.dock ≡ true }

abbrev pub decreases-loop-end : goal.decreases-loop-end
decreases-loop-end l = length l.text - l.at
