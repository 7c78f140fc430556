-- `keydock_scan` meets its contract: of a record the scan is made, and nothing else. Assumes nothing.
use mathlib.Core.Path.{◌≡◌, sym, ap, ◌∙◌}
use mathlib.Core.Bool.{false}
use Rattle.dock.specs.Calls.{Scan}
use Rattle.layout.specs.Layout.{is_record}
use Rattle.layout.proofs.Records.{another_size}
use Rattle.lent.proofs.Lending.{refused_lent}
use Rattle.lent.proofs.keydock_scan.Goals as goal

pub scan_record-requires : goal.scan_record-requires
scan_record-requires c = sym c.is_record.ensures ∙ c.if-is_record.true

pub returns-in-Some-2 : goal.returns-in-Some-2
returns-in-Some-2 c =
    let same = c.in-Some.ensures.cases.same in
    let none : is_record c.args.lent.now ≡ false = ap is_record (sym same) ∙ sym c.is_record.ensures ∙ c.if-is_record.false in
    let refused = refused_lent (Scan _) _ none in
    record { answer = refused.answer; bytes = same ∙ refused.bytes }

pub returns-in-None : goal.returns-in-None
returns-in-None c = refused_lent (Scan _) _ (another_size _ c.in-None.ensures.cases)
