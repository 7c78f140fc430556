-- `calls::scan` meets its contract: what it answers says what the table has. Assumes nothing.
use Rattle.std.proofs.Common.{rules}
use Rattle.basics.proofs.Once.{answering}
use Rattle.dock.specs.Scan.{scan_of}
use Rattle.dock.proofs.Saying.{scan_says}
use Rattle.calls.proofs.scan.Goals as goal

pub returns-in_err-check : goal.returns-in_err-check
unfolding scan_of
returns-in_err-check c = answering (scan_says _ _) (search rules)

pub returns : goal.returns
unfolding scan_of
returns c = answering (scan_says _ _) (search rules)
