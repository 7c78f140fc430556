-- `wire::read::read_in_place` meets its contract: what is given is the oldest, and what is left is in its range. Assumes nothing.
use Rattle.record.specs.Views.{keys_of}
use Rattle.range.proofs.Ranges.{good_keys_queue, good_rest_outgoing, good_rest_replies}
use Rattle.dock.proofs.InRange.{reply_leaves_range, key_byte_leaves_range}
use Rattle.dock.proofs.Reading.{read_reply, read_key_byte, read_nothing}
use Rattle.wire.proofs.read.read_in_place.Goals as goal

-- A reply.
pub pop-requires : goal.pop-requires
pop-requires c = good_rest_replies _ c.requires

pub give-requires : goal.give-requires
give-requires c = reply_leaves_range c.args.dock.now c.requires _ c.pop.ensures.others

pub returns-in-Some : goal.returns-in-Some
returns-in-Some c = read_reply c.args.dock.now _ _ c.in-Some.ensures.oldest _ c.pop.ensures.others c.give.ensures

-- A key byte.
pub pop-requires-2 : goal.pop-requires-2
pop-requires-2 c = good_keys_queue (keys_of c.args.dock.now) (good_rest_outgoing _ c.requires)

pub give-requires-in-Some-pop : goal.give-requires-in-Some-pop
give-requires-in-Some-pop c =
    rw c.in_default.ensures.nothing.1 (key_byte_leaves_range c.args.dock.now c.requires _ c.pop-2.ensures.others)

pub returns-in-Some-pop : goal.returns-in-Some-pop
returns-in-Some-pop c =
    let silent = c.in_default.ensures.nothing in
    read_key_byte c.args.dock.now _ _ silent.0 c.in-Some-pop.ensures.oldest _ c.pop-2.ensures.others (rw silent.1 at c.give-in-Some-pop.ensures)

-- Neither.
pub close_in_place-requires : goal.close_in_place-requires
close_in_place-requires c = rw (c.in_default.ensures.nothing.1, c.in_default-pop.ensures.nothing.1) c.requires

pub returns : goal.returns
returns c =
    let silent = c.in_default.ensures.nothing in
    let empty = c.in_default-pop.ensures.nothing in
    read_nothing c.args.dock.now _ silent.0 empty.0 (rw (silent.1, empty.1) at c.close_in_place.ensures)
