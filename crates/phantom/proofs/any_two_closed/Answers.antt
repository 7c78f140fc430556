use Rattle.std.proofs.Common.{refl, arith}
use Rattle.basics.proofs.Flags.{any_more, any_end}
use Rattle.phantom.specs.Phantom.{two_closed, any_two_closed}
use Rattle.phantom.proofs.Distances.{raised_then, raised_else}
use Rattle.phantom.proofs.any_two_closed.Goals as goal
use Rattle.phantom.proofs.any_two_closed.Goals.{else-two_closed, then-two_closed}

pub loop-rows-preserved : goal.loop-rows-preserved
unfolding any_two_closed
loop-rows-preserved c =
    let more = any_more any_two_closed two_closed refl (λ x xs. refl) _ c.loop-rows.rows-index _ c.loop-rows.invariant (omega arith) _ c.two_closed.ensures in
    elim c.if-two_closed.branch [
      | then-two_closed w ↦ rw (raised_then c.loop-rows.any _ _ w.if-two_closed.true w.any-is) more
      | else-two_closed w ↦ rw (raised_else c.loop-rows.any _ _ w.if-two_closed.false w.any-is) more
    ]

pub returns : goal.returns
unfolding any_two_closed
returns c = any_end any_two_closed two_closed refl (λ x xs. refl) _ c.loop-rows.rows-index _ c.loop-rows.invariant (omega arith)
