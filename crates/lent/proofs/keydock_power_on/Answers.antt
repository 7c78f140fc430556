-- `keydock_power_on` meets its contract: a fresh record is put into as many bytes as a record has. Assumes nothing.
use mathlib.Core.Path.{ap, ◌∙◌}
use native.Mathlib.Omega.{arith}
use Rattle.layout.specs.Layout.{bytes_of}
use Rattle.lent.proofs.Lending.{not_woken, woken, fresh_short}
use Rattle.lent.proofs.keydock_power_on.Goals as goal

pub returns-then-lent-ne-SIZE : goal.returns-then-lent-ne-SIZE
returns-then-lent-ne-SIZE c =
    let refused = not_woken c.args.lent.now (λ e. omega arith) in
    record { answer = refused.0; bytes = refused.1 }

pub put_record-requires : goal.put_record-requires
put_record-requires c =
    record { size = omega arith; short = fresh_short _ c.power_on.ensures }

pub returns : goal.returns
returns c =
    let done = woken c.args.lent.now (omega arith) _ (c.put_record.ensures ∙ ap bytes_of c.power_on.ensures) in
    record { answer = done.0; bytes = done.1 }
