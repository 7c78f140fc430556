-- `text::end_of` meets its contract: where the search finds no newline, the line ends with the text. Assumes nothing.
use native.Mathlib.Omega.{arith}
use Rattle.std.proofs.lemmas.Slice.{between_to_end}
use Rattle.text.proofs.Newlines.{found_none}
use Rattle.text.proofs.end_of.Goals as goal

pub returns-in-None : goal.returns-in-None
returns-in-None c = found_none c.args.text.now c.args.at _ _ (between_to_end c.args.text.now c.args.at _ (omega arith)) c.first_newline.ensures c.requires c.in-None.is
