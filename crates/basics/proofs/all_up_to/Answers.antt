use mathlib.Core.Path.{refl}
use lib.Dec.{leb}
use Rattle.basics.specs.Lists.{all_up_to}
use Rattle.basics.proofs.Flags.{all_more, all_end}
use Rattle.basics.proofs.all_up_to.Goals as goal

pub loop-entry-preserved : goal.loop-entry-preserved
unfolding all_up_to
loop-entry-preserved c =
    all_more (all_up_to c.args.limit) (λ x. leb x c.args.limit) refl (λ x xs. refl) _ c.loop-entry.entry-index _ c.loop-entry.invariant
    c.loop-entry-test.true _ refl

pub returns : goal.returns
unfolding all_up_to
returns c =
    all_end (all_up_to c.args.limit) (λ x. leb x c.args.limit) refl (λ x xs. refl) _ c.loop-entry.entry-index _ c.loop-entry.invariant
    c.loop-entry-test.false
