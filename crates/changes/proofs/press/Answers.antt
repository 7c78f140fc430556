-- `changes::press` meets its contract: the key is the one that repeats, if it may, else none does. Assumes nothing.
use mathlib.Core.Path.{ap}
use Rattle.record.specs.Views.{keys_of}
use Rattle.record.specs.Parts.{with_keys}
use Rattle.range.proofs.Ranges.{good_mode_rate, good_keys_queue}
use Rattle.sending.specs.Sending.{sends}
use Rattle.keying.proofs.Changes.{pressed_to_repeat, pressed_once}
use Rattle.changes.proofs.press.Goals as goal

pub send_press-requires : goal.send_press-requires
send_press-requires c = good_keys_queue (keys_of c.args.dock.now) c.requires.ready.keys

pub delay_of-dock-requires : goal.delay_of-dock-requires
delay_of-dock-requires c = good_mode_rate _ c.requires.ready.mode

pub returns-then-may_repeat : goal.returns-then-may_repeat
unfolding sends
returns-then-may_repeat c =
    let d = c.args.dock.now in
    ap (with_keys d) (pressed_to_repeat (keys_of d) d.rest.mode c.args.kind c.args.key _ c.set_held.ensures _ c.send_press.ensures
    _ c.may_repeat.ensures c.if-may_repeat.true _ c.delay_of-dock.ensures)

pub returns : goal.returns
unfolding sends
returns c =
    let d = c.args.dock.now in
    ap (with_keys d) (pressed_once (keys_of d) d.rest.mode c.args.kind c.args.key _ c.set_held.ensures _ c.send_press.ensures
    _ c.may_repeat.ensures c.if-may_repeat.false)
