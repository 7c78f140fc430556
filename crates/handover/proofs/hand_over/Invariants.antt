-- `handover::hand_over` meets its contract. The loop's invariant: what is left of the handover is the same handover of the keys as they
-- are, from this key on. Assumes nothing.
use Rattle.handover.proofs.Leaving.{Going}
use Rattle.handover.proofs.hand_over.Given as goal

abbrev pub invariant-loop-key : goal.invariant-loop-key
invariant-loop-key l = Going l.initial.dock l.key l.dock
