-- `calls::frame` meets its contract: what it answers says what the table has. Assumes nothing.
use Rattle.std.proofs.Common.{rules}
use Rattle.basics.proofs.Once.{answering}
use Rattle.dock.specs.Frame.{frame_of}
use Rattle.dock.proofs.Saying.{frame_says}
use Rattle.calls.proofs.frame.Goals as goal

pub returns-in_err-check : goal.returns-in_err-check
unfolding frame_of
returns-in_err-check c = answering (frame_says _ _) (search rules)

pub returns : goal.returns
unfolding frame_of
returns c = answering (frame_says _ _) (search rules)
