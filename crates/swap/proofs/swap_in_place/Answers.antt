-- `swap::swap_in_place` meets its contract: with the map the record stays in its range. Assumes nothing.
use mathlib.Core.Path.{sym, ◌∙◌}
use Rattle.range.proofs.Ranges.{in_range_rest}
use Rattle.dock.proofs.InRange.{swap_leaves_range}
use Rattle.swap.proofs.swap_in_place.Goals as goal

pub close_in_place-requires : goal.close_in_place-requires
close_in_place-requires c =
    in_range_rest _ (swap_leaves_range _ _ c.requires (sym c.all_up_to.ensures ∙ c.if-not-all_up_to.false) _ c.remap.ensures)
