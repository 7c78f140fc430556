-- `sending::modifiers_of` meets its contract: a pair of flags is at most 3, so the sum fits a byte. Assumes nothing.
use native.Mathlib.Omega.{arith}
use lib.ListN.{get_or}
use Rattle.sending.proofs.Sent.{pair_small, three_pairs}
use Rattle.sending.proofs.modifiers_of.Goals as goal

pub overflow_mul-result : goal.overflow_mul-result
overflow_mul-result c =
    let held = c.args.held.now in
    omega (arith, pair_small (get_or held 54 0) (get_or held 58 0) _ c.pair-ctrl.ensures)

pub overflow_add-result : goal.overflow_add-result
overflow_add-result c =
    let held = c.args.held.now in
    omega (
      arith,
      pair_small (get_or held 42 0) (get_or held 53 0) _ c.pair-shift.ensures,
      pair_small (get_or held 54 0) (get_or held 58 0) _ c.pair-ctrl.ensures,
    )

pub overflow_mul-result-2 : goal.overflow_mul-result-2
overflow_mul-result-2 c =
    let held = c.args.held.now in
    omega (arith, pair_small (get_or held 55 0) (get_or held 57 0) _ c.pair-alt.ensures)

pub overflow_add-result-2 : goal.overflow_add-result-2
overflow_add-result-2 c =
    let held = c.args.held.now in
    omega (
      arith,
      pair_small (get_or held 42 0) (get_or held 53 0) _ c.pair-shift.ensures,
      pair_small (get_or held 54 0) (get_or held 58 0) _ c.pair-ctrl.ensures,
      pair_small (get_or held 55 0) (get_or held 57 0) _ c.pair-alt.ensures,
    )

pub returns : goal.returns
returns c =
    three_pairs c.args.held.now _ _ _ c.pair-shift.ensures c.pair-ctrl.ensures c.pair-alt.ensures
