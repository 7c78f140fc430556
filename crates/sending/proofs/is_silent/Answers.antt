-- `sending::is_silent` meets its contract: in set 3 no code is silent, and of the others the type says; else it is the release of PAUSE.
-- Assumes nothing.
use mathlib.Core.Path.{sym, ◌∙◌}
use borrow.Author.Tests.{eq-eqb, ne_eqb}
use Rattle.sending.proofs.Silence.{silent_by_code, silent_by_type, silent_by_key}
use Rattle.sending.proofs.is_silent.Goals as goal

pub returns-then-key-ge-FIRST_MEDIA : goal.returns-then-key-ge-FIRST_MEDIA
returns-then-key-ge-FIRST_MEDIA c =
    let a = c.args in
    silent_by_code a.set a.key a.kind c.if-set-eq3.true c.if-key-ge-FIRST_MEDIA.true

pub returns-then-kind : goal.returns-then-kind
returns-then-kind c =
    let a = c.args in
    sym c.if-kind.true ∙ silent_by_type a.set a.key a.kind c.if-set-eq3.true c.if-key-ge-FIRST_MEDIA.false

pub returns-then-key-eq-PAUSE : goal.returns-then-key-eq-PAUSE
returns-then-key-eq-PAUSE c =
    let a = c.args in
    sym (eq-eqb a.key 101 c.if-key-eq-PAUSE.true) ∙ silent_by_key a.set a.key a.kind c.requires.low c.requires.high c.if-set-eq3.false

pub returns-else-kind : goal.returns-else-kind
returns-else-kind c =
    let a = c.args in
    sym c.if-kind.false ∙ silent_by_type a.set a.key a.kind c.if-set-eq3.true c.if-key-ge-FIRST_MEDIA.false

pub returns-else-key-eq-PAUSE : goal.returns-else-key-eq-PAUSE
returns-else-key-eq-PAUSE c =
    let a = c.args in
    sym (ne_eqb a.key 101 c.if-key-eq-PAUSE.false) ∙ silent_by_key a.set a.key a.kind c.requires.low c.requires.high c.if-set-eq3.false
