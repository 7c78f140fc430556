-- `reading::as_record` meets its contract: the bytes are those that were looked at. Assumes nothing.
use mathlib.Core.Path.{sym, ap, ◌∙◌}
use Rattle.layout.specs.Layout.{is_record}
use Rattle.layout.proofs.Records.{another_size}
use Rattle.layout.proofs.reading.as_record.Goals as goal

pub returns-in_err-bytes : goal.returns-in_err-bytes
returns-in_err-bytes c = rw c.from_residual.ensures (another_size _ c.in_err-bytes.ensures.cases)

pub returns-then-is_record : goal.returns-then-is_record
returns-then-is_record c =
    let same = c.in_ok-bytes.ensures.cases.same in
    (ap is_record (sym same) ∙ sym c.is_record.ensures ∙ c.if-is_record.true, same)

pub returns-else-is_record : goal.returns-else-is_record
returns-else-is_record c = ap is_record (sym c.in_ok-bytes.ensures.cases.same) ∙ sym c.is_record.ensures ∙ c.if-is_record.false
