-- `phantom::is_phantom` meets its contract. A scan without a column that has two closed rows is not phantom. The loop's
-- invariant: the flag says whether the last two columns share, or one of sixteen with a column less than d behind it.
-- Assumes nothing.
use Rattle.std.proofs.Common.{◌≡◌}
use Rattle.phantom.proofs.Distances.{shares_within}
use Rattle.phantom.proofs.is_phantom.Given as goal

abbrev pub invariant-loop-d : goal.invariant-loop-d
invariant-loop-d l = l.found ≡ shares_within l.d l.columns
