-- `writing::put_record` meets its contract: the map in front of all else. Assumes nothing.
use native.Mathlib.Omega.{arith}
use borrow.Author.Rules.{rules}
use Rattle.layout.specs.Layout.{bytes_of}
use Rattle.layout.proofs.Putting.{put_before}
use Rattle.layout.proofs.writing.put_record.Goals as goal

pub returns : goal.returns
unfolding bytes_of
returns c = put_before c.args.lent.now _ _ _ _ 0 144 c.put_types.ensures c.copy_from_slice.ensures.after (search rules) (omega (arith, c.requires.size))
