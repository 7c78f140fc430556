-- `queue::Queue::pop` meets its contract: the oldest byte is the first, and the others move up. Assumes nothing.
use mathlib.Core.Path.{◌≡◌, ap₂}
use borrow.Author.Rules.{rules}
use lib.ListN.{length}
use Rattle.queue.specs.Queues.{queue_with, waiting, queue_of, tidy}
use Rattle.queue.proofs.Popping.{no_oldest, nothing_popped, oldest_first, popped_by_moving}
use Rattle.queue.proofs.Queue.pop.Goals as goal

pub returns-then-self-eq0-clause-oldest : goal.returns-then-self-eq0-clause-oldest
unfolding waiting tidy
returns-then-self-eq0-clause-oldest c =
    let q = c.args.self.now in
    let places : length q.bytes ≡ 16 = search rules in
    no_oldest 16 q.bytes q.length c.requires places c.if-self-eq0.true

pub returns-then-self-eq0-clause-others : goal.returns-then-self-eq0-clause-others
unfolding waiting queue_of tidy
returns-then-self-eq0-clause-others c =
    let q = c.args.self.now in
    let places : length q.bytes ≡ 16 = search rules in
    let same = nothing_popped 16 q.bytes q.length c.requires places c.if-self-eq0.true in
    ap₂ queue_with same.bytes same.count

pub returns-clause-oldest : goal.returns-clause-oldest
unfolding waiting tidy
returns-clause-oldest c =
    let q = c.args.self.now in
    let places : length q.bytes ≡ 16 = search rules in
    oldest_first 16 q.bytes q.length c.requires places c.if-self-eq0.false

pub returns-clause-others : goal.returns-clause-others
unfolding waiting queue_of tidy
returns-clause-others c =
    let q = c.args.self.now in
    let places : length q.bytes ≡ 16 = search rules in
    let popped = popped_by_moving 16 q.bytes q.length c.requires places c.if-self-eq0.false _ c.moved_up-self.ensures in
    ap₂ queue_with popped.bytes popped.count
