-- `reading::rest_in` meets its contract: the places of queue and replies are copied, and each number and flag is the byte at its place. Assumes nothing.
use borrow.Author.Rules.{rules}
use Rattle.layout.specs.Layout.{rest_in}
use Rattle.layout.proofs.Records.{three_replies}
use Rattle.layout.proofs.reading.rest_in.Goals as goal

pub returns : goal.returns
unfolding rest_in
returns c = rw (c.part_in.ensures, c.part_in-2.ensures, three_replies c.args.lent.now (search rules))
