-- `keying::repeating::repeat` meets its contract: at each return the tests so far decide what the definition gives. Assumes nothing.
use mathlib.Core.Path.{ap, ◌∙◌}
use mathlib.Core.List.{[]}
use native.Mathlib.Omega.{arith}
use Rattle.codes.specs.declared.Action.TheVariants.{Repeat}
use Rattle.record.specs.Views.{keys_of}
use Rattle.record.specs.Parts.{with_keys}
use Rattle.range.proofs.Ranges.{good_keys_repeating}
use Rattle.sending.specs.Sending.{sends}
use Rattle.queue.specs.Queues.{tidy, contents}
use Rattle.queue.proofs.Meaning.{tidy-queue_of}
use Rattle.queue.proofs.Pushing.{pushed_alone}
use Rattle.sending.proofs.Sent.{sends_short, sequence_is}
use lib.ListN.{length, get_or}
use Prim.Native.Nat.{◌≤◌}
use Rattle.keying.proofs.Due.{repeats_none, repeats_later, repeats_no_more, repeats_lost, repeats_sent}
use Rattle.keying.proofs.repeating.repeat.Goals as goal

pub returns-then-key-eq0 : goal.returns-then-key-eq0
returns-then-key-eq0 c =
    let d = c.args.dock.now in
    ap (with_keys d) (repeats_none (keys_of d) _ _ _ c.if-key-eq0.true)

pub returns-then-dock-ne0 : goal.returns-then-dock-ne0
returns-then-dock-ne0 c =
    let d = c.args.dock.now in
    ap (with_keys d) (repeats_later (keys_of d) _ _ _ c.if-key-eq0.false c.if-dock-ne0.true)

pub bounds-dock-key : goal.bounds-dock-key
bounds-dock-key c = omega (arith, good_keys_repeating (keys_of c.args.dock.now) c.requires.keys)

pub returns-then-not-may_repeat : goal.returns-then-not-may_repeat
returns-then-not-may_repeat c =
    let d = c.args.dock.now in
    ap (with_keys d) (repeats_no_more (keys_of d) _ _ _ c.if-key-eq0.false c.if-dock-ne0.false _ c.may_repeat.ensures c.if-not-may_repeat.true)

pub push-requires : goal.push-requires
push-requires c = ap tidy c.empty-dock.ensures ∙ tidy-queue_of [] (omega arith)

pub returns-then-quiet : goal.returns-then-quiet
unfolding sends
returns-then-quiet c =
    let d = c.args.dock.now in
    let s = c.bytes_of-sequence.result in
    let sent = sequence_is (keys_of d) d.rest.mode _ _ Repeat s c.bytes_of-sequence.ensures in
    let short : length (contents s) ≤ 16 = rw sent (omega (arith, sends_short (keys_of d) d.rest.mode (get_or d.types d.rest.outgoing.repeating 0) d.rest.outgoing.repeating Repeat)) in
    ap (with_keys d) (repeats_sent (keys_of d) _ _ _ c.if-key-eq0.false c.if-dock-ne0.false _ c.may_repeat.ensures
    c.if-not-may_repeat.false _ c.interval_of-dock.ensures c.if-quiet.true s _ c.bytes_of-sequence.ensures
    (pushed_alone _ _ s 0 c.empty-dock.ensures short c.push.ensures))

pub returns-else-quiet : goal.returns-else-quiet
returns-else-quiet c =
    let d = c.args.dock.now in
    ap (with_keys d) (repeats_lost (keys_of d) _ _ _ c.if-key-eq0.false c.if-dock-ne0.false _ c.may_repeat.ensures
    c.if-not-may_repeat.false _ c.interval_of-dock.ensures c.if-quiet.false)
