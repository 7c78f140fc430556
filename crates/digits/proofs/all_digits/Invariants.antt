-- `digits::all_digits` meets its contract. The loop's invariant: the line is all digits if the characters so far were and those
-- still to come are. Assumes nothing.
use mathlib.Core.Path.{◌≡◌}
use lib.ListN.{drop}
use Rattle.basics.specs.Choice.{both}
use Rattle.digits.specs.Digits.{all_digits}
use Rattle.digits.proofs.all_digits.Given as goal

abbrev pub invariant-loop-c : goal.invariant-loop-c
invariant-loop-c l = all_digits l.line ≡ both l.good (all_digits (drop l.c-index l.line))
