-- `changes::contact_turned` meets its contract: at each return the tests so far decide what the definition gives. Assumes nothing.
use borrow.Author.Tests.{eq-eqb, ne_eqb}
use Rattle.keying.specs.Changes.{moved}
use Rattle.changes.proofs.contact_turned.Goals as goal

pub returns-then-key-eq0 : goal.returns-then-key-eq0
unfolding moved
returns-then-key-eq0 c = simp (eq-eqb _ _ c.if-key-eq0.true)

pub returns-then-closed-eq1 : goal.returns-then-closed-eq1
unfolding moved
returns-then-closed-eq1 c =
    simp (ne_eqb _ _ c.if-key-eq0.false, eq-eqb _ _ c.if-closed-eq1.true) c.press.ensures

pub returns : goal.returns
unfolding moved
returns c =
    simp (ne_eqb _ _ c.if-key-eq0.false, ne_eqb _ _ c.if-closed-eq1.false) c.release.ensures
