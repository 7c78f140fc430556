-- `sending::pair` meets its contract: a flag counts at most 1, so the sum fits a byte. Assumes nothing.
use native.Mathlib.Omega.{arith}
use lib.ListN.{get_or}
use Rattle.sending.proofs.Sent.{flag_small}
use Rattle.sending.proofs.pair.Goals as goal

pub overflow_mul-result : goal.overflow_mul-result
overflow_mul-result c =
    let a = c.args in
    omega (arith, flag_small (get_or a.held.now a.high 0) _ c.flag-2.ensures)

pub overflow_add-result : goal.overflow_add-result
overflow_add-result c =
    let a = c.args in
    omega (
      arith,
      flag_small (get_or a.held.now a.low 0) _ c.flag.ensures,
      flag_small (get_or a.held.now a.high 0) _ c.flag-2.ensures,
    )

pub returns : goal.returns
returns c = rw (c.flag.ensures, c.flag-2.ensures)
