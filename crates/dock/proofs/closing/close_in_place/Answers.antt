-- `dock::closing::close_in_place` meets its contract: keys are handed over only while a handover is open. Assumes nothing.
use Rattle.dock.proofs.Handing.{keys_ready}
use Rattle.dock.proofs.closing.close_in_place.Goals as goal

pub hand_over-requires : goal.hand_over-requires
hand_over-requires c = keys_ready _ c.requires
