use mathlib.Core.Path.{sym, ap, ◌∙◌}
use native.Mathlib.Omega.{arith}
use Rattle.codes.specs.declared.Sequence.{Sequence}
use Rattle.queue.specs.Queues.{waiting, has_room}
use Rattle.queue.proofs.Meaning.{tidy_short}
use Rattle.record.specs.Views.{keys_of}
use Rattle.range.proofs.Ranges.{good_keys_queue}
use Rattle.sending.specs.Sending.{sends}
use Rattle.handover.proofs.Leaving.{begins, passes, leaves, waits, ends}
use Rattle.handover.proofs.hand_over.Goals as goal
use Rattle.handover.proofs.hand_over.Goals.{else-is_held, then-is_held+else-not-fits}

pub loop-key-init : goal.loop-key-init
loop-key-init c = begins _ c.requires.keys

pub fits-requires : goal.fits-requires
fits-requires c = tidy_short _ (good_keys_queue (keys_of c.loop-key.dock) c.loop-key.invariant.good)

pub returns-then-not-fits : goal.returns-then-not-fits
unfolding sends
returns-then-not-fits c =
    let l = c.loop-key in
    waits c.args.dock.now l.key l.dock l.invariant (omega arith) (sym c.is_held.ensures ∙ c.if-is_held.true) _ _ c.bytes_of-sequence.ensures (c.fits.ensures.waits ∙ ap (λ (s : Sequence). has_room (waiting l.dock.rest.outgoing.queue) s.length) c.sequence.view_is)
    c.if-not-fits.true

pub release_with-requires : goal.release_with-requires
release_with-requires c =
    record { tidied = good_keys_queue (keys_of c.loop-key.dock) c.loop-key.invariant.good; number = omega arith }

pub loop-key-preserved : goal.loop-key-preserved
unfolding sends
loop-key-preserved c =
    let l = c.loop-key in
    let h = sym c.is_held.ensures in
    elim c.if-is_held.branch [
      | then-is_held+else-not-fits w ↦ leaves c.args.dock.now l.key l.dock l.invariant (omega arith) (h ∙ w.if-is_held.true) _ _ w.bytes_of-sequence.ensures (w.fits.ensures.waits ∙ ap (λ (s : Sequence). has_room (waiting l.dock.rest.outgoing.queue) s.length) w.sequence.view_is)
          w.if-not-fits.false _ (w.dock-is ∙ w.release_with.ensures)
      | else-is_held w ↦ passes c.args.dock.now l.key l.dock l.invariant (omega arith) _ (h ∙ w.if-is_held.false) w.dock-is
    ]

pub returns : goal.returns
returns c =
    let l = c.loop-key in
    ends c.args.dock.now l.key l.dock l.invariant (omega arith) (omega arith)
