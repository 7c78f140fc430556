-- `calls::read` meets its contract: what it answers says what the table has. Assumes nothing.
use Rattle.std.proofs.Common.{rules}
use Rattle.basics.proofs.Once.{answering}
use Rattle.dock.specs.Read.{read_of}
use Rattle.dock.proofs.Saying.{read_says}
use Rattle.calls.proofs.read.Goals as goal

pub returns-in_err-check : goal.returns-in_err-check
unfolding read_of
returns-in_err-check c = answering (read_says _) (search rules)

pub returns : goal.returns
unfolding read_of
returns c = answering (read_says _) (search rules)
