-- `wire::frame::frame_in_place` meets its contract: whatever the byte does, the record stays in its range. Assumes nothing.
use mathlib.Core.Path.{◌∙◌}
use Rattle.dock.proofs.InRange.{broken_leaves_range, byte_leaves_range}
use Rattle.wire.proofs.frame.frame_in_place.Goals as goal
use Rattle.wire.proofs.frame.frame_in_place.Goals.{in-Ok, in-Err-Broken}

pub close_in_place-requires : goal.close_in_place-requires
close_in_place-requires c =
    elim c.match-unpack.branch [
      | in-Ok w ↦ byte_leaves_range _ c.requires _ _ (w.dock-is ∙ w.take.ensures)
      | in-Err-Broken w ↦ broken_leaves_range _ c.requires _ (w.dock-is ∙ w.reply.ensures)
    ]
