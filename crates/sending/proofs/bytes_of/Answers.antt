-- `sending::bytes_of` meets its contract: a key of one form sends the same whatever else is held, and any other is asked for in full. Assumes nothing.
use mathlib.Core.Path.{sym, ◌∙◌}
use Rattle.record.specs.Held.{modifiers_of}
use Rattle.sending.specs.Sending.{num_lock}
use Rattle.sending.proofs.bytes_of.Goals as goal

pub plain_sequence-requires : goal.plain_sequence-requires
plain_sequence-requires c = sym c.has_forms.ensures ∙ c.if-not-has_forms.true

pub returns-then-not-has_forms : goal.returns-then-not-has_forms
returns-then-not-has_forms c =
    let a = c.args in
    c.plain_sequence.ensures (modifiers_of a.held.now) (num_lock a.mode.indicators)

pub returns : goal.returns
returns c = rw (c.modifiers_of.ensures, c.num_lock.ensures) at c.sequence_of.ensures
