-- `calls::swap` meets its contract: what it answers says what the table has. Assumes nothing.
use Rattle.std.proofs.Common.{rules}
use Rattle.basics.proofs.Once.{answering}
use Rattle.dock.specs.Swap.{swap_of}
use Rattle.dock.proofs.Saying.{swap_says}
use Rattle.calls.proofs.swap.Goals as goal

pub returns-in_err-check : goal.returns-in_err-check
unfolding swap_of
returns-in_err-check c = answering (swap_says _ _) (search rules)

pub returns : goal.returns
unfolding swap_of
returns c = answering (swap_says _ _) (search rules)
