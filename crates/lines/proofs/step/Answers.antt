-- `lines::step` meets its contract: of a record in its range the line is run in place. Assumes nothing.
use mathlib.Core.Path.{◌≡◌}
use native.Mathlib.Omega.{arith}
use mathlib.Core.Bool.{false}
use Rattle.basics.proofs.Once.{answering}
use Rattle.range.specs.Range.{in_range}
use Rattle.lines.specs.Steps.{step_of}
use Rattle.lines.proofs.Saying.{step_says}
use Rattle.lines.proofs.step.Goals as goal

pub returns-then-not-in_range : goal.returns-then-not-in_range
unfolding step_of
returns-then-not-in_range c =
    let bad : in_range c.args.dock.now ≡ false = grind arith in
    answering (step_says _ _) (rw (c.number.ensures, bad))

pub returns : goal.returns
returns c = answering (step_says _ _) c.step_in_place.ensures
