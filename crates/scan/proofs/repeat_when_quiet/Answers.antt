-- `scan::repeat_when_quiet` meets its contract: the record is ready for a repeat. Assumes nothing.
use Rattle.dock.proofs.Handing.{keys_ready}
use Rattle.scan.proofs.repeat_when_quiet.Goals as goal

pub repeat-requires : goal.repeat-requires
repeat-requires c = keys_ready _ c.requires
