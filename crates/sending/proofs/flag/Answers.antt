-- `sending::flag` meets its contract. Assumes nothing.
use Rattle.sending.proofs.Sent.{flag_held, flag_free}
use Rattle.sending.proofs.flag.Goals as goal

pub returns-then-is_held : goal.returns-then-is_held
returns-then-is_held c =
    let a = c.args in
    flag_held a.held.now a.key _ c.is_held.ensures c.if-is_held.true

pub returns : goal.returns
returns c =
    let a = c.args in
    flag_free a.held.now a.key _ c.is_held.ensures c.if-is_held.false
