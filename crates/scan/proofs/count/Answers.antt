-- `scan::count` meets its contract: the contacts are no part of what the keys ask for. Assumes nothing.
use Rattle.range.proofs.Ranges.{in_range_map, in_range_rest}
use Rattle.dock.proofs.Handing.{keys_ready}
use Rattle.scan.proofs.count.Goals as goal

pub turns-requires : goal.turns-requires
turns-requires c =
    let d = c.args.dock.now in
    record { ready = keys_ready _ (in_range_rest d c.requires); entries = in_range_map d c.requires }
