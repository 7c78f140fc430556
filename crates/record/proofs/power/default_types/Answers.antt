-- `record::power::default_types` meets its contract: its table is the last column of the key table, computed. Assumes nothing.
use mathlib.Core.Path.{refl}
use Rattle.keys.specs.Keys.{rows}
use Rattle.record.specs.Power.{default_types}
use Rattle.record.proofs.power.default_types.Goals as goal

pub returns : goal.returns
unfolding default_types rows
returns c = refl
