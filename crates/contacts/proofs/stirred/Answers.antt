use native.Mathlib.Omega.{arith}
use Rattle.contacts.proofs.Bytes.{packed_none}
use Rattle.contacts.proofs.Renewals.{renewed_none}
use Rattle.contacts.proofs.Columns.{row_counts, row_turns_lem, all_counts, all_closed}
use Rattle.contacts.proofs.stirred.Goals as goal

pub loop-r-init : goal.loop-r-init
loop-r-init c = (renewed_none _ _ _, packed_none _)

pub loop-r-preserved : goal.loop-r-preserved
loop-r-preserved c =
    let a = c.args in
    let below = c.loop-r-test.true in (
      row_counts a.column a.seen a.closed a.counts.now _ c.loop-r.r c.loop-r.invariant.0 below _ c.next_count.ensures,
      row_turns_lem a.column a.seen a.closed a.counts.now _ c.loop-r.r c.loop-r.invariant.0 below _ _ c.loop-r.invariant.1
          c.turning-turned.ensures,
    )

pub returns : goal.returns
returns c =
    let a = c.args in
    record {
      contacts =
          all_closed a.column a.seen a.closed a.counts.now _ _ c.loop-r.invariant.0 (omega arith) c.loop-r-test.false
          (omega arith) (omega arith) _ c.loop-r.invariant.1;
      counts = all_counts a.column a.seen a.closed a.counts.now _ _ c.loop-r.invariant.0 (omega arith) c.loop-r-test.false;
    }
