use Rattle.digits.proofs.Bytes.{filled_more, filled_all}
use Rattle.digits.proofs.bytes_in.Goals as goal

pub loop-i-preserved : goal.loop-i-preserved
loop-i-preserved g c = filled_more g.row.N _ _ c.loop-i.i c.loop-i.invariant c.loop-i-test.true _ c.byte_at.ensures

pub returns : goal.returns
returns g c = filled_all g.row.N _ _ c.loop-i.i c.loop-i.invariant c.loop-i-test.false
