-- `changes::turns` meets its contract. The loop's invariant: the columns below c are gone through. Assumes nothing.
use mathlib.Core.Path.{◌≡◌}
use Rattle.changes.proofs.Turning.{columns_to}
use Rattle.changes.proofs.turns.Given as goal

abbrev pub invariant-loop-c : goal.invariant-loop-c
invariant-loop-c l = l.dock ≡ columns_to l.initial.dock l.was l.c
