-- `sending::send_press` meets its contract: a full queue takes the mark, unless nothing is sent, and any other is asked whether the
-- bytes fit. Assumes nothing.
use mathlib.Core.Path.{◌≡◌, sym, ◌∙◌}
use native.Mathlib.Omega.{arith}
use borrow.Author.Rules.{rules}
use lib.ListN.{length}
use Rattle.codes.specs.declared.Action.TheVariants.{Press}
use Rattle.codes.proofs.Coded.{uncoded_none}
use Rattle.queue.proofs.Meaning.{tidy_short}
use Rattle.queue.proofs.Pushing.{some_waits}
use Rattle.record.specs.Views.{keys}
use Rattle.record.specs.Held.{modifiers_of}
use Rattle.sending.specs.Sending.{num_lock, sends}
use Rattle.sending.proofs.Sent.{sequence_is}
use Rattle.sending.proofs.Silence.{press_some, no_longer, nothing_queued, no_room_marks, pushed_queues}
use Rattle.sending.proofs.send_press.Goals as goal

pub fits-requires : goal.fits-requires
fits-requires c = tidy_short _ c.requires

pub mark_last-requires : goal.mark_last-requires
mark_last-requires c =
    record { tidied = c.requires; some = some_waits _ _ (omega arith) (sym c.fits.ensures.waits ∙ c.if-not-fits.true) }

pub returns-then-not-fits : goal.returns-then-not-fits
returns-then-not-fits c =
    let a = c.args in
    let some = press_some a.mode.set a.key a.kind (modifiers_of a.held.now) (num_lock a.mode.indicators) (sym c.has_code.ensures ∙ c.if-not-has_code.false) in
    no_room_marks a.queue.now a.mode _ _ c.mark_of.ensures _ c.mark_last.ensures
    (no_longer _ 1 _ (sym c.fits.ensures.waits ∙ c.if-not-fits.true) some)

pub returns-then-not-has_code : goal.returns-then-not-has_code
returns-then-not-has_code c =
    let a = c.args in
    let places : length a.queue.now.bytes ≡ 16 = search rules in
    nothing_queued a.queue.now a.mode _ c.requires places
    (uncoded_none a.mode.set a.key a.kind (sym c.has_code.ensures ∙ c.if-not-has_code.true) Press (modifiers_of a.held.now)
    (num_lock a.mode.indicators))

pub push-requires : goal.push-requires
push-requires c = c.requires

pub returns : goal.returns
unfolding sends
returns c =
    let a = c.args in
    pushed_queues a.queue.now a.mode _ _ c.mark_of-2.ensures _ _
    (sequence_is (keys a.held.now a.queue.now 0 0) a.mode a.kind a.key Press _ c.bytes_of-sequence.ensures) c.push.ensures
