-- `digits::bytes_in` meets its contract. The loop's invariant: the bytes so far are the line's. Assumes nothing.
use Rattle.digits.proofs.Bytes.{FilledUpTo}
use Rattle.digits.proofs.bytes_in.Given as goal

abbrev pub invariant-loop-i : goal.invariant-loop-i
invariant-loop-i g l = FilledUpTo g.row.N l.line l.byte-items l.i
