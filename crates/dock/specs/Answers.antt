-- What calls give back (docs/RULES.md, section 9). Assumes nothing.
use Rattle.std.specs.Prelude.{ℕ, Bool, [], ◌∷◌, Option, Some, None, Result, Ok, Err, is_ok, ⊤}
use Rattle.basics.specs.Said.{Said, accepted, refused}
use Rattle.record.specs.declared.Dock.{Dock}
use Rattle.dock.specs.declared.Refusal.{Refusal}
use Rattle.dock.specs.declared.Refusal.TheVariants.{ScanLength, MapLength, MapEntry, MapDouble, FrameNumber, BadRecord}
use Rattle.dock.specs.declared.Given.{Given}
use Rattle.dock.specs.declared.Given.TheVariants.{Reply, KeyByte}

-- What a scan, a swap or a frame is answered with, and the record after it.
pub record Answered : Type 0 where
  pub answer : Result ⊤ Refusal
  pub dock : Dock

-- What a read gives, and the record after it.
pub record Taken : Type 0 where
  pub given : Result (Option Given) Refusal
  pub dock : Dock

-- The number of each refusal.
abbrev pub refusal_number : Refusal → ℕ
refusal_number ScanLength = 1
refusal_number MapLength = 2
refusal_number MapEntry = 3
refusal_number MapDouble = 4
refusal_number FrameNumber = 5
refusal_number BadRecord = 9

-- What each answer says: a refusal has its number.
abbrev pub answer_says : Result ⊤ Refusal → Said
answer_says (Ok done) = accepted []
answer_says (Err refusal) = refused (refusal_number refusal)

-- A call was accepted.
abbrev pub is_accepted : Result ⊤ Refusal → Bool
is_accepted answer = is_ok answer

-- The kinds of byte that a read can give.
abbrev pub a_reply : ℕ
a_reply = 1

abbrev pub a_key_byte : ℕ
a_key_byte = 2

-- What a read says, by what it gives: which kind of byte, and the byte, if there is one.
abbrev pub given_says : Result (Option Given) Refusal → Said
given_says (Ok None) = accepted []
given_says (Ok (Some (Reply byte))) = accepted (a_reply ∷ byte ∷ [])
given_says (Ok (Some (KeyByte byte))) = accepted (a_key_byte ∷ byte ∷ [])
given_says (Err refusal) = refused (refusal_number refusal)

-- The same of an answer beside the record.
abbrev pub answered_says : Answered → Said
answered_says r = answer_says r.answer

abbrev pub taken_says : Taken → Said
taken_says r = given_says r.given

-- An answer beside the record.
abbrev pub answered : Result ⊤ Refusal → Dock → Answered
answered answer dock = record { answer = answer; dock = dock }

-- What a read gave beside the record.
abbrev pub taken : Result (Option Given) Refusal → Dock → Taken
taken given dock = record { given = given; dock = dock }
