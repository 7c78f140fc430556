use Rattle.std.proofs.Common.{arith}
use Rattle.phantom.proofs.Rectangles.{few_phantom}
use Rattle.phantom.proofs.Distances.{last_two, distance_more}
use Rattle.phantom.proofs.Pairs.{all_distances}
use Rattle.phantom.proofs.is_phantom.Goals as goal

pub returns-then-not-any_two_closed : goal.returns-then-not-any_two_closed
returns-then-not-any_two_closed c = few_phantom _ _ c.any_two_closed.ensures c.if-not-any_two_closed.true

pub loop-d-init : goal.loop-d-init
loop-d-init c = last_two _ _ c.two_closed-found.ensures

pub loop-d-preserved : goal.loop-d-preserved
loop-d-preserved c = distance_more _ c.loop-d.d (omega arith) c.loop-d.found c.loop-d.invariant _ c.shares_at-found.ensures

pub returns : goal.returns
returns c =
    all_distances c.args.scan.now _ (omega arith) c.padded-columns.ensures c.loop-d.d c.loop-d.found c.loop-d.invariant (omega arith)
    c.loop-d-test.false
