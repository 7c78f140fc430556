-- `frames::unpack` meets its contract: at each return the tests so far decide what the definition gives. Assumes nothing.
use native.Mathlib.Omega.{arith}
use mir.Facts.{Fits-and_r}
use borrow.Author.Rules.{rules}
use Rattle.basics.proofs.Once.{answering}
use Rattle.frames.proofs.Unpacking.{too_large, broken, all_right, unpacking_says}
use Rattle.frames.proofs.unpack.Goals as goal

pub returns-then-frame-gt2047 : goal.returns-then-frame-gt2047
returns-then-frame-gt2047 c = answering (unpacking_says _) (too_large c.args.frame (omega arith))

pub returns-then-pack-frame : goal.returns-then-pack-frame
returns-then-pack-frame c = answering (unpacking_says _) (broken _ c.if-frame-gt2047.false _ c.pack.ensures c.if-pack-frame.true)

pub returns : goal.returns
returns c = answering (unpacking_says _) (all_right _ c.if-frame-gt2047.false _ c.pack.ensures c.if-pack-frame.false)

pub overflow_cast-byte : goal.overflow_cast-byte
overflow_cast-byte c = search (rules, Fits-and_r)
