-- `writing::small_of` meets its contract: a byte for each number and flag. Assumes nothing.
use Rattle.layout.specs.Layout.{small_of}
use Rattle.layout.proofs.Putting.{flag_byte}
use Rattle.layout.proofs.writing.small_of.Goals as goal

pub returns : goal.returns
unfolding small_of
returns c = rw (c.from.ensures, c.from-2.ensures, flag_byte c.args.rest.now.scanning, flag_byte c.args.rest.now.handover)
