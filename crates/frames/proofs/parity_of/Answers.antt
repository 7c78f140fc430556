-- `frames::parity_of` meets its contract: the byte is folded as the law has it. Assumes nothing.
use native.Mathlib.Omega.{arith}
use Rattle.frames.proofs.Folding.{folded_parity}
use Rattle.frames.proofs.parity_of.Goals as goal

pub returns : goal.returns
returns c = folded_parity c.args.byte (omega arith)
