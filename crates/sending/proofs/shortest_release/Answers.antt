-- `sending::shortest_release` meets its contract: its test is that of the definition. Assumes nothing.
use borrow.Author.Tests.{eq-eqb, ne_eqb}
use Rattle.sending.proofs.shortest_release.Goals as goal

pub returns-then-set-eq1 : goal.returns-then-set-eq1
returns-then-set-eq1 c = simp (eq-eqb _ _ c.if-set-eq1.true)

pub returns-else-set-eq1 : goal.returns-else-set-eq1
returns-else-set-eq1 c = simp (ne_eqb _ _ c.if-set-eq1.false)
