use native.Mathlib.Omega.{arith}
use Rattle.basics.proofs.Sameness.{same_more, same_end}
use Rattle.contacts.proofs.shows.Goals as goal

pub loop-i-preserved : goal.loop-i-preserved
loop-i-preserved c = same_more _ _ c.loop-i.i c.loop-i.all c.loop-i.invariant (omega arith) (omega arith)

pub returns : goal.returns
returns c = same_end _ _ c.loop-i.i _ c.loop-i.invariant (omega arith) (omega arith)
