-- `queue::Queue::fits` meets its contract: as many bytes wait as the length says. Assumes nothing.
use mathlib.Core.Path.{◌≡◌}
use borrow.Author.Rules.{rules}
use lib.ListN.{length}
use Rattle.queue.proofs.Meaning.{room_as_counted}
use Rattle.queue.proofs.Queue.fits.Goals as goal

pub returns-clause-waits : goal.returns-clause-waits
returns-clause-waits c =
    let q = c.args.self.now in
    let places : length q.bytes ≡ 16 = search rules in
    room_as_counted q places c.requires c.args.more
