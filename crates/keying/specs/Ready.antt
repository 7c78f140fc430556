-- What pressing, releasing, repeating and handing over keys asks of the record. Assumes nothing.
use Rattle.std.specs.Prelude.{◌≡◌, true}
use Rattle.record.specs.declared.Dock.{Dock}
use Rattle.record.specs.Views.{keys_of}
use Rattle.range.specs.Range.{good_keys, good_mode}

-- The keys and the mode are in their ranges.
pub record Ready (d : Dock) : Type 0 where
  pub keys : good_keys (keys_of d) ≡ true
  pub mode : good_mode d.rest.mode ≡ true
