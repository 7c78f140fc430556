-- `writing::put_contacts` meets its contract: the contacts in front of the held keys. Assumes nothing.
use native.Mathlib.Omega.{arith}
use borrow.Author.Rules.{rules}
use Rattle.layout.proofs.Putting.{put_before}
use Rattle.layout.proofs.writing.put_contacts.Goals as goal

pub returns : goal.returns
returns c =
    let counts = put_before c.args.lent.now _ _ _ _ 288 144 c.put_held.ensures c.copy_from_slice.ensures.after (search rules) (omega (arith, c.requires.size)) in
    put_before c.args.lent.now _ _ _ _ 270 18 counts c.copy_from_slice-2.ensures.after (search rules) (omega (arith, c.requires.size))
