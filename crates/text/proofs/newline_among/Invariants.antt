-- `text::newline_among` meets its contract. The loop's invariant: found says whether a newline stands among the characters so far.
-- Assumes nothing.
use mathlib.Core.Path.{◌≡◌}
use Rattle.text.specs.Lines.{newline_among}
use Rattle.text.proofs.newline_among.Given as goal

abbrev pub invariant-loop-c : goal.invariant-loop-c
invariant-loop-c l = l.found ≡ newline_among l.text l.at l.c-index
