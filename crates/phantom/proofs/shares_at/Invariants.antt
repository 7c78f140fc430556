-- `phantom::shares_at` meets its contract. The loop's invariant: the flag says whether one of the first j columns shares
-- with the one at the distance behind it. Assumes nothing.
use Rattle.std.proofs.Common.{◌≡◌}
use Rattle.phantom.specs.Phantom.{shares_at}
use Rattle.phantom.proofs.shares_at.Given as goal

abbrev pub invariant-loop-j : goal.invariant-loop-j
invariant-loop-j l = l.shared ≡ shares_at l.j l.distance l.columns
