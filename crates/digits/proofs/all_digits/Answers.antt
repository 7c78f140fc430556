use mathlib.Core.Path.{refl}
use Rattle.basics.proofs.Flags.{all_more, all_end}
use Rattle.digits.specs.Digits.{is_digit, all_digits}
use Rattle.digits.proofs.all_digits.Goals as goal

pub loop-c-preserved : goal.loop-c-preserved
unfolding all_digits
loop-c-preserved c =
    all_more all_digits is_digit refl (λ x xs. refl) _ c.loop-c.c-index _ c.loop-c.invariant c.loop-c-test.true _ c.is_digit-good.ensures

pub returns : goal.returns
unfolding all_digits
returns c = all_end all_digits is_digit refl (λ x xs. refl) _ c.loop-c.c-index _ c.loop-c.invariant c.loop-c-test.false
