-- `scan::hear` meets its contract: the record stays in its range from step to step. Assumes nothing.
use Rattle.range.proofs.Ranges.{in_range_rest}
use Rattle.dock.proofs.InRange.{ticked_leaves_range, changed_leaves_range}
use Rattle.scan.proofs.hear.Goals as goal

pub change-requires : goal.change-requires
change-requires c = ticked_leaves_range _ c.requires _ c.tick.ensures

pub repeat_when_quiet-requires : goal.repeat_when_quiet-requires
repeat_when_quiet-requires c =
    in_range_rest _ (changed_leaves_range _ (ticked_leaves_range _ c.requires _ c.tick.ensures) _ _ c.change.ensures)
