use native.Mathlib.Omega.{arith}
use Rattle.record.proofs.Filling.{filled_none, filled_more, filled_power_on}
use Rattle.record.proofs.power.power_on.Goals as goal

pub loop-position-init : goal.loop-position-init
loop-position-init c = filled_none _

pub loop-position-preserved : goal.loop-position-preserved
loop-position-preserved c = filled_more _ _ _ c.loop-position.invariant

pub returns : goal.returns
returns c =
    filled_power_on _ c.loop-position.position _ _ _ c.loop-position.invariant (omega arith) c.default_types.ensures c.fresh_rest.ensures c.of.ensures
