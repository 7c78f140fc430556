-- `frames::pack` meets its contract: the parts, shifted and joined, are the sum that is the frame. Assumes nothing.
use native.Mathlib.Omega.{arith}
use Rattle.frames.proofs.Packing.{packed_by_shifts}
use Rattle.frames.proofs.pack.Goals as goal

pub returns : goal.returns
returns c = packed_by_shifts c.args.byte _ (omega arith) c.parity_of.ensures
