-- `replies::Replies::pop` meets its contract: the oldest is the first, and the others move up. Assumes nothing.
use mathlib.Core.Path.{◌≡◌, ap₂}
use borrow.Author.Rules.{rules}
use lib.ListN.{length}
use Rattle.replies.proofs.ReplyMeaning.{replies}
use Rattle.replies.specs.Replies.{waiting_replies, replies_of, tidy_replies}
use Rattle.queue.proofs.Popping.{no_oldest, nothing_popped, oldest_first, popped_by_moving}
use Rattle.replies.proofs.Replies.pop.Goals as goal

pub returns-then-self-eq0-clause-oldest : goal.returns-then-self-eq0-clause-oldest
unfolding waiting_replies tidy_replies
returns-then-self-eq0-clause-oldest c =
    let r = c.args.self.now in
    let places : length r.bytes ≡ 3 = search rules in
    no_oldest 3 r.bytes r.length c.requires places c.if-self-eq0.true

pub returns-then-self-eq0-clause-others : goal.returns-then-self-eq0-clause-others
unfolding waiting_replies replies_of tidy_replies
returns-then-self-eq0-clause-others c =
    let r = c.args.self.now in
    let places : length r.bytes ≡ 3 = search rules in
    let same = nothing_popped 3 r.bytes r.length c.requires places c.if-self-eq0.true in
    ap₂ replies same.bytes same.count

pub returns-clause-oldest : goal.returns-clause-oldest
unfolding waiting_replies tidy_replies
returns-clause-oldest c =
    let r = c.args.self.now in
    let places : length r.bytes ≡ 3 = search rules in
    oldest_first 3 r.bytes r.length c.requires places c.if-self-eq0.false

pub returns-clause-others : goal.returns-clause-others
unfolding waiting_replies replies_of tidy_replies
returns-clause-others c =
    let r = c.args.self.now in
    let places : length r.bytes ≡ 3 = search rules in
    let popped = popped_by_moving 3 r.bytes r.length c.requires places c.if-self-eq0.false _ c.moved_up-self.ensures in
    ap₂ replies popped.bytes popped.count
