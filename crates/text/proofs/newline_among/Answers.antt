use Rattle.text.proofs.Newlines.{among_none, among_more, among_end}
use Rattle.text.proofs.newline_among.Goals as goal

pub loop-c-init : goal.loop-c-init
loop-c-init c = among_none _ _

pub loop-c-preserved : goal.loop-c-preserved
loop-c-preserved c = among_more c.args.text.now c.args.at c.args.n c.loop-c.c-index _ c.loop-c.invariant c.requires c.loop-c-test.true

pub returns : goal.returns
returns c = among_end c.args.text.now c.args.at c.args.n c.loop-c.c-index _ c.loop-c.invariant c.requires c.loop-c.auto.c-index-end c.loop-c-test.false
