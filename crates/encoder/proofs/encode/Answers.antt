-- `encoder::encode` meets its contract: what was written are the bytes asked for, and what is allowed has room. Assumes nothing.
use mathlib.Core.Path.{◌≡◌, sym, ◌∙◌}
use mathlib.Core.Bool.{true}
use borrow.Author.Tests.{le-ltb}
use Rattle.codes.proofs.Adding.{holding_bytes}
use Rattle.encoder.specs.Encoder.{allowed, asked, encoded_of, encoded_said, output_of}
use Rattle.encoder.proofs.encode.Goals as goal

pub returns : goal.returns
unfolding asked encoded_of encoded_said output_of
returns c =
    let a = c.args in
    let good : allowed a.set a.key a.event a.kind a.modifiers a.lock ≡ true = sym c.is_allowed.ensures ∙ c.if-not-is_allowed.false in
    let room = le-ltb _ _ c.if-out-lt8.false in
    let asked_of = rw c.action_of.ensures at c.sequence_of-sequence.ensures in
    let sent = rw (asked_of, holding_bytes) at c.as_slice-bytes.ensures in
    rw (c.copy_from_slice.ensures.after, sent) (record { answer = rw (good, room); said = rw (good, room); output = rw (good, room) })
