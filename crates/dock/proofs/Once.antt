-- What a call promises leaves no second answer, and no second record. Assumes nothing.
use mathlib.Core.Path.{◌≡◌}
use native.Mathlib.Omega.{arith}
use Rattle.std.specs.Prelude.{Option, Result, ⊤}
use Rattle.record.specs.declared.Dock.{Dock}
use Rattle.dock.specs.declared.Given.{Given}
use Rattle.dock.specs.declared.Refusal.{Refusal}
use Rattle.dock.specs.Answers.{Answered, Taken, answered, taken}

-- `answered`: an answer beside the record,
pub answered_once : {stated : Answered} (answer answer' : Result ⊤ Refusal) (dock dock' : Dock)
    → answered answer dock ≡ stated → answered answer' dock' ≡ stated → (answer ≡ answer') × (dock ≡ dock')
answered_once answer answer' dock dock' p q = grind arith

-- and `taken`: what a read gave.
pub taken_once : {stated : Taken} (given given' : Result (Option Given) Refusal) (dock dock' : Dock)
    → taken given dock ≡ stated → taken given' dock' ≡ stated → (given ≡ given') × (dock ≡ dock')
taken_once given given' dock dock' p q = grind arith
