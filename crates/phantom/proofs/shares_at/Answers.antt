use Rattle.std.proofs.Common.{◌∙◌, arith}
use Rattle.phantom.proofs.Distances.{raised_then, raised_else, no_pair, pair_more, all_pairs}
use Rattle.phantom.proofs.shares_at.Goals as goal
use Rattle.phantom.proofs.shares_at.Goals.{else-two_closed, then-two_closed}

pub loop-j-init : goal.loop-j-init
loop-j-init c = no_pair _ _

pub loop-j-preserved : goal.loop-j-preserved
loop-j-preserved c =
    let more = pair_more c.args.distance c.args.columns.now c.loop-j.j c.loop-j.shared c.loop-j.invariant _ c.two_closed.ensures in
    elim c.if-two_closed.branch [
      | then-two_closed w ↦ raised_then c.loop-j.shared _ _ w.if-two_closed.true w.shared-is ∙ more
      | else-two_closed w ↦ raised_else c.loop-j.shared _ _ w.if-two_closed.false w.shared-is ∙ more
    ]

pub returns : goal.returns
returns c = all_pairs _ _ _ 16 _ c.loop-j.invariant (omega arith) c.loop-j-test.false
