use mathlib.Core.Path.{◌∙◌}
use native.Mathlib.Omega.{arith}
use Rattle.contacts.specs.Counts.{contacts}
use Rattle.contacts.proofs.Passes.{counted_none, still_more, stirred_more, counted_all_lem}
use Rattle.contacts.proofs.count.Goals as goal
use Rattle.contacts.proofs.count.Goals.{then-seen-closed, else-seen-closed}

pub loop-column-init : goal.loop-column-init
loop-column-init c = counted_none (contacts c.args.closed.now c.args.counts.now) _

pub loop-column-preserved : goal.loop-column-preserved
loop-column-preserved c =
    let a = c.args in
    let k = contacts a.closed.now a.counts.now in
    let l = c.loop-column in
    let before = contacts l.closed l.counts in
    let after = contacts c.if-seen-closed.closed c.if-seen-closed.counts in
    elim c.if-seen-closed.branch [
      | then-seen-closed w ↦ still_more k a.scan.now l.column before after l.invariant w.if-seen-closed.true (omega arith) w.closed-is (w.counts-is ∙ w.still.ensures)
      | else-seen-closed w ↦ stirred_more k a.scan.now l.column before after l.invariant _ w.stirred.ensures.contacts w.closed-is (w.counts-is ∙ w.stirred.ensures.counts)
    ]

pub returns : goal.returns
returns c =
    let a = c.args in
    let l = c.loop-column in
    counted_all_lem (contacts a.closed.now a.counts.now) a.scan.now (omega arith) (omega arith) l.column (contacts l.closed l.counts) (omega arith)
    c.loop-column-test.false l.invariant
