-- `writing::put_types` meets its contract: the types in front of the contacts. Assumes nothing.
use native.Mathlib.Omega.{arith}
use borrow.Author.Rules.{rules}
use Rattle.layout.proofs.Putting.{put_before}
use Rattle.layout.proofs.writing.put_types.Goals as goal

pub returns : goal.returns
returns c = put_before c.args.lent.now _ _ _ _ 144 126 c.put_contacts.ensures c.copy_from_slice.ensures.after (search rules) (omega (arith, c.requires.size))
