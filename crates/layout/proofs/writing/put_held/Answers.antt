-- `writing::put_held` meets its contract: the held keys in front of the rest. Assumes nothing.
use native.Mathlib.Omega.{arith}
use borrow.Author.Rules.{rules}
use Rattle.layout.proofs.Putting.{put_before}
use Rattle.layout.proofs.writing.put_held.Goals as goal

pub returns : goal.returns
returns c = put_before c.args.lent.now _ _ _ _ 432 144 c.put_rest.ensures c.copy_from_slice.ensures.after (search rules) (omega (arith, c.requires.size))
