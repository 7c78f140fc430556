-- `changes::column` meets its contract. The loop's invariant: the rows left are a byte, and moving them makes of the record what all
-- rows make of it at first. The measure is the byte of the rows left. Assumes nothing.
use Prim.Native.Nat.{◌<◌}
use Rattle.changes.proofs.Turning.{Turning}
use Rattle.changes.proofs.column.Given as goal

abbrev pub invariant-loop-turned : goal.invariant-loop-turned
invariant-loop-turned l = record { byte : l.turned < 256; going : Turning l.initial.dock l.c l.was l.is l.turned l.dock }

abbrev pub decreases-loop-turned : goal.decreases-loop-turned
decreases-loop-turned l = l.turned
