-- `stepped`: what a line promises leaves no second record, and no second print. Assumes nothing.
use mathlib.Core.Path.{◌≡◌, ap}
use Rattle.basics.proofs.Once.{one_answer}
use Rattle.record.specs.declared.Dock.{Dock}
use Rattle.printing.specs.Printing.{Printed}
use Rattle.lines.specs.Steps.{Stepped, stepped}

pub stepped_once : {stated : Stepped} (dock dock' : Dock) (printed printed' : Printed)
    → stepped dock printed ≡ stated → stepped dock' printed' ≡ stated → (dock ≡ dock') × (printed ≡ printed')
stepped_once dock dock' printed printed' p q =
    let e = one_answer p q in
    (ap (λ (s : Stepped). s.dock) e, ap (λ (s : Stepped). s.printed) e)
