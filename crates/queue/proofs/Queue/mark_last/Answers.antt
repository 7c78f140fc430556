-- `queue::Queue::mark_last` meets its contract: the mark stands over the last byte that waits. Assumes nothing.
use mathlib.Core.Path.{◌≡◌}
use native.Mathlib.Omega.{arith}
use borrow.Author.Rules.{rules}
use lib.ListN.{length}
use Rattle.queue.proofs.Meaning.{tidy_short}
use Rattle.queue.proofs.Pushing.{marked_last}
use Rattle.queue.proofs.Queue.mark_last.Goals as goal

pub bounds-self-self : goal.bounds-self-self
bounds-self-self c = omega (arith, tidy_short _ c.requires.tidied)

pub returns : goal.returns
returns c =
    let q = c.args.self.now in
    let places : length q.bytes ≡ 16 = search rules in
    marked_last q c.requires.tidied places c.args.mark c.requires.some
