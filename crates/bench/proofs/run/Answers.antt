use Prim.Native.Nat.{◌+◌}
use native.Mathlib.Omega.{arith}
use Rattle.text.proofs.Newlines.{line_end_after, line_end_within}
use Rattle.printing.proofs.Prints.{few}
use Rattle.lines.proofs.InRange.{stepped_in_range}
use Rattle.bench.proofs.run.Goals as goal

pub loop-end-preserved : goal.loop-end-preserved
loop-end-preserved c =
    let text = c.args.text.now in
    let next = c.loop-end.end + 1 in
    let range = stepped_in_range _ _ _ _ c.step_in_place-printed.ensures c.loop-end.invariant.range in
    record {
      used = omega (arith, c.end_of-end-in-loop-end.ensures, line_end_after text next);
      inside = omega (arith, c.end_of-end-in-loop-end.ensures, line_end_within text next (omega arith));
      room = omega (arith, few c.step_in_place-printed.result);
      range = range;
    }
