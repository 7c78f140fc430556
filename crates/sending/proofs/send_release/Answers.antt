-- `sending::send_release` meets its contract: a silent release sends nothing, one for which even the shortest has no room takes the
-- mark, and any other is asked whether its bytes fit. Assumes nothing.
use mathlib.Core.Path.{◌≡◌, sym, ◌∙◌}
use borrow.Author.Rules.{rules}
use lib.ListN.{length}
use Rattle.codes.specs.declared.Action.TheVariants.{Release}
use Rattle.queue.proofs.Meaning.{tidy_short}
use Rattle.queue.proofs.Pushing.{some_waits}
use Rattle.range.proofs.Ranges.{good_mode_set}
use Rattle.record.specs.Views.{keys}
use Rattle.record.specs.Held.{modifiers_of}
use Rattle.sending.specs.Sending.{num_lock, sends}
use Rattle.sending.proofs.Sent.{sequence_is}
use Rattle.sending.proofs.Silence.{release_none, release_long, shortest_small, no_longer, nothing_queued, no_room_marks, pushed_queues}
use Rattle.sending.proofs.send_release.Goals as goal

pub is_silent-requires : goal.is_silent-requires
is_silent-requires c = good_mode_set _ c.requires.mode

pub returns-then-is_silent : goal.returns-then-is_silent
returns-then-is_silent c =
    let a = c.args in
    let places : length a.queue.now.bytes ≡ 16 = search rules in
    nothing_queued a.queue.now a.mode _ c.requires.tidied places
    (release_none a.mode.set a.key a.kind (modifiers_of a.held.now) (num_lock a.mode.indicators) _ c.is_silent.ensures c.if-is_silent.true)

pub fits-requires : goal.fits-requires
fits-requires c = tidy_short _ c.requires.tidied

pub mark_last-requires : goal.mark_last-requires
mark_last-requires c =
    record {
      tidied = c.requires.tidied;
      some = some_waits _ _ (shortest_small _ _ c.shortest_release.ensures) (sym c.fits.ensures.waits ∙ c.if-not-fits.true);
    }

pub returns-then-not-fits : goal.returns-then-not-fits
returns-then-not-fits c =
    let a = c.args in
    let long = release_long a.mode.set a.key a.kind (modifiers_of a.held.now) (num_lock a.mode.indicators) _ c.is_silent.ensures c.if-is_silent.false in
    no_room_marks a.queue.now a.mode _ _ c.mark_of.ensures _ c.mark_last.ensures
    (no_longer _ _ _ (sym c.fits.ensures.waits ∙ c.if-not-fits.true) (rw c.shortest_release.ensures long))

pub push-requires : goal.push-requires
push-requires c = c.requires.tidied

pub returns : goal.returns
unfolding sends
returns c =
    let a = c.args in
    pushed_queues a.queue.now a.mode _ _ c.mark_of-2.ensures _ _
    (sequence_is (keys a.held.now a.queue.now 0 0) a.mode a.kind a.key Release _ c.bytes_of-sequence.ensures) c.push.ensures
