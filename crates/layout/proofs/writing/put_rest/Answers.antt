-- `writing::put_rest` meets its contract: the numbers and flags, and the queue in front of them. Assumes nothing.
use mathlib.Core.Path.{◌∙◌}
use native.Mathlib.Omega.{arith}
use borrow.Author.Rules.{rules}
use Rattle.layout.specs.Layout.{rest_bytes}
use Rattle.layout.proofs.Putting.{small_length, put_last, put_before}
use Rattle.layout.proofs.writing.put_rest.Goals as goal

pub returns : goal.returns
unfolding rest_bytes
returns c =
    let small = put_last c.args.lent.now _ _ 592 14 (c.copy_from_slice.ensures.after ∙ c.small_of.ensures) (small_length c.args.rest.now) (omega (arith, c.requires.size)) in
    put_before c.args.lent.now _ _ _ _ 576 16 small c.copy_from_slice-2.ensures.after (search rules) (omega (arith, c.requires.size))
