-- What the bench prints for an answer, and the characters of it (docs/RULES.md, section 12). Assumes nothing.
use Rattle.std.specs.Prelude.{ℕ, ◌+◌, ◌/◌, ◌%◌, List, [], ◌∷◌, eqb, get_or, length, set, Option, Some, None, Result, Ok, Err, ⊤}
use Rattle.basics.specs.Choice.{pick}
use Rattle.basics.specs.Said.{Said, accepted, refused}
use Rattle.dock.specs.declared.Refusal.{Refusal}
use Rattle.dock.specs.declared.Given.{Given}
use Rattle.dock.specs.declared.Given.TheVariants.{Reply, KeyByte}
use Rattle.dock.specs.Answers.{answer_says, is_accepted, given_says}
use Rattle.frames.specs.Frames.{packed_of}
use Rattle.digits.specs.Digits.{digit_of}

-- What a line prints: nothing or the frame that a read gave, or the number of a refusal.
abbrev pub Printed : Type 0
Printed = Result (Option ℕ) ℕ

-- An accepted line prints nothing; a refused one prints its number.
abbrev pub answer_prints : Result ⊤ Refusal → Printed
answer_prints answer = pick (is_accepted answer) (Ok None) (Err (answer_says answer).number)

-- A read prints the frame of the byte given, or 000.
abbrev pub read_prints : Result (Option Given) Refusal → Printed
read_prints (Ok None) = Ok (Some 0)
read_prints (Ok (Some (Reply byte))) = Ok (Some (packed_of byte))
read_prints (Ok (Some (KeyByte byte))) = Ok (Some (packed_of byte))
read_prints (Err refusal) = Err (given_says (Err refusal)).number

-- What each line printed says (docs/RULES.md, section 9): the frame that a read gave, or the number of a refusal.
abbrev pub printed_says : Printed → Said
printed_says (Ok None) = accepted []
printed_says (Ok (Some frame)) = accepted (frame ∷ [])
printed_says (Err number) = refused number

-- What a read says, as a frame: that of the byte given, or 0.
abbrev pub as_frame : Said → Said
as_frame said =
    pick (eqb said.number 0) (accepted (pick (eqb (length said.values) 0) 0 (packed_of (get_or said.values 1 0)) ∷ [])) said

-- The characters: the three digits of a frame, or ! and the digit of a number, and a newline behind them.
abbrev pub characters : Printed → List ℕ
characters (Ok None) = []
characters (Ok (Some frame)) = digit_of (frame / 256 % 16) ∷ digit_of (frame / 16 % 16) ∷ digit_of (frame % 16) ∷ 0x0a ∷ []
characters (Err number) = 0x21 ∷ digit_of (number % 16) ∷ 0x0a ∷ []

-- A text with these characters in it from a place on.
unfoldable pub written_at : ℕ → List ℕ → List ℕ → List ℕ
written_at at [] text = text
written_at at (c ∷ cs) text = written_at (at + 1) cs (set text at c)
