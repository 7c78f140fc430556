-- A record in its range is ready for what is done with its keys. Assumes nothing.
use mathlib.Core.Path.{◌≡◌}
use mathlib.Core.Bool.{true}
use Rattle.keying.specs.Ready.{Ready}
use Rattle.record.specs.declared.Dock.{Dock}
use Rattle.range.specs.Range.{good_rest}
use Rattle.range.proofs.Ranges.{good_rest_outgoing, good_rest_mode}

pub keys_ready : (d : Dock) → good_rest d.rest ≡ true → Ready d
keys_ready d good = record { keys = good_rest_outgoing d.rest good; mode = good_rest_mode d.rest good }
