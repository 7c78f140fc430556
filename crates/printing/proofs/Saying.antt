-- What is printed says what the answer says, and a refusal is printed only for one. Assumes nothing.
use mathlib.Core.Path.{◌≡◌, refl}
use mathlib.Core.Bool.{Bool, true, false}
use Rattle.basics.proofs.Cases.{never}
use Rattle.std.specs.Prelude.{Option, Some, None, Result, Ok, Err, is_ok, ⊤}
use Rattle.dock.specs.declared.Refusal.{Refusal}
use Rattle.dock.specs.declared.Refusal.TheVariants.{ScanLength, MapLength, MapEntry, MapDouble, FrameNumber, BadRecord}
use Rattle.dock.specs.declared.Given.{Given}
use Rattle.dock.specs.declared.Given.TheVariants.{Reply, KeyByte}
use Rattle.dock.specs.Answers.{answer_says, is_accepted, given_says}
use Rattle.printing.specs.Printing.{Printed, answer_prints, read_prints, printed_says, as_frame}

-- What is printed for an answer says what the answer says,
pub answer_printed : (answer : Result ⊤ Refusal) → printed_says (answer_prints answer) ≡ answer_says answer
answer_printed (Ok done) = refl
answer_printed (Err refusal) = refl

-- and what is printed for a read says it as a frame.
pub read_printed : (given : Result (Option Given) Refusal) → printed_says (read_prints given) ≡ as_frame (given_says given)
read_printed (Ok None) = refl
read_printed (Ok (Some (Reply byte))) = refl
read_printed (Ok (Some (KeyByte byte))) = refl
read_printed (Err ScanLength) = refl
read_printed (Err MapLength) = refl
read_printed (Err MapEntry) = refl
read_printed (Err MapDouble) = refl
read_printed (Err FrameNumber) = refl
read_printed (Err BadRecord) = refl

-- What is printed is a refusal.
abbrev pub refuses : Printed → Bool
refuses (Ok frame) = false
refuses (Err number) = true

-- Then the call was not accepted.
pub not_accepted : (answer : Result ⊤ Refusal) → refuses (answer_prints answer) ≡ true → is_accepted answer ≡ false
not_accepted (Ok done) e = never false e refl
not_accepted (Err refusal) e = refl

-- And a read was refused.
pub read_not_accepted : (given : Result (Option Given) Refusal) → refuses (read_prints given) ≡ true → is_ok given ≡ false
read_not_accepted (Ok None) e = never false e refl
read_not_accepted (Ok (Some (Reply byte))) e = never false e refl
read_not_accepted (Ok (Some (KeyByte byte))) e = never false e refl
read_not_accepted (Err refusal) e = refl
