-- The encoder that is asked with numbers and lent an output (docs/RULES.md, sections 3 and 9). Assumes nothing.
use Rattle.std.specs.Prelude.{ℕ, ◌≡◌, Bool, List, [], ◌∷◌, ◌++◌, eqb, ltb, leb, length, drop, Result, Ok, Err}
use Rattle.basics.specs.Choice.{pick, both, between}
use Rattle.basics.specs.Said.{Said, accepted, refused}
use Rattle.keys.specs.Keys.{last_key}
use Rattle.codes.specs.declared.Action.{Action}
use Rattle.codes.specs.declared.Action.TheVariants.{Press, Release, Repeat}
use Rattle.codes.specs.Codes.{encode}
use Rattle.encoder.specs.declared.EncodeError.{EncodeError}
use Rattle.encoder.specs.declared.EncodeError.TheVariants.{BadChoice, ShortOutput}

-- The action that an event's number asks for: 0 a press, 1 a release, 2 a repeat.
abbrev pub action_of : ℕ → Action
action_of event = pick (eqb event 0) Press (pick (eqb event 1) Release Repeat)

-- What the encoder may be asked for.
unfoldable pub allowed : ℕ → ℕ → ℕ → ℕ → ℕ → ℕ → Bool
allowed set key event type modifiers lock =
    both (between 1 3 set)
    (both (between 1 last_key key)
    (both (leb event 2)
    (both (leb type 3)
    (both (leb modifiers 63) (leb lock 1)))))

-- The bytes that these numbers ask for.
unfoldable pub asked : ℕ → ℕ → ℕ → ℕ → ℕ → ℕ → List ℕ
asked set key event type modifiers lock = encode set key (action_of event) type modifiers (eqb lock 1)

-- The answer: a choice out of its range is refused first, then an output under 8 bytes; else the number of bytes written.
unfoldable pub encoded_of : ℕ → ℕ → ℕ → ℕ → ℕ → ℕ → List ℕ → Result ℕ EncodeError
encoded_of set key event type modifiers lock out =
    pick (allowed set key event type modifiers lock)
    (pick (ltb (length out) 8) (Err ShortOutput) (Ok (length (asked set key event type modifiers lock))))
    (Err BadChoice)

-- A list with its first places taken by another.
abbrev pub over : List ℕ → List ℕ → List ℕ
over bytes out = bytes ++ drop (length bytes) out

-- The lent output afterwards: the bytes asked for at its front, and all as before behind them or after a refusal.
unfoldable pub output_of : ℕ → ℕ → ℕ → ℕ → ℕ → ℕ → List ℕ → List ℕ
output_of set key event type modifiers lock out =
    pick (allowed set key event type modifiers lock)
    (pick (ltb (length out) 8) out (over (asked set key event type modifiers lock) out))
    out

-- What each answer says (docs/RULES.md, section 9): an accepted one has how many bytes were written.
abbrev pub encoded_says : Result ℕ EncodeError → Said
encoded_says (Ok count) = accepted (count ∷ [])
encoded_says (Err ShortOutput) = refused 6
encoded_says (Err BadChoice) = refused 7

-- What is said of these numbers and this output, by the table.
unfoldable pub encoded_said : ℕ → ℕ → ℕ → ℕ → ℕ → ℕ → List ℕ → Said
encoded_said set key event type modifiers lock out =
    pick (allowed set key event type modifiers lock)
    (pick (ltb (length out) 8) (refused 6) (accepted (length (asked set key event type modifiers lock) ∷ [])))
    (refused 7)

-- What the encoder promises, refused or not: the answer, what it says, and all of the lent output.
pub record Encodes (set key event type modifiers lock : ℕ) (out : List ℕ) (r : Result ℕ EncodeError) (out' : List ℕ) : Type 0 where
  pub answer : r ≡ encoded_of set key event type modifiers lock out
  pub said : encoded_says r ≡ encoded_said set key event type modifiers lock out
  pub output : out' ≡ output_of set key event type modifiers lock out
