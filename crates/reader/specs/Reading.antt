-- Reading a run of bytes: the state at its end and the events on the way (docs/RULES.md, section 4). Assumes nothing.
use Rattle.std.specs.Prelude.{ℕ, List, [], ◌∷◌, ◌++◌}
use Rattle.reader.specs.declared.Event.{Event}
use Rattle.reader.specs.declared.Event.TheVariants.{More, Pressed, Released, PauseStruck, Wrapping, Overrun, Unknown}
use Rattle.reader.specs.Reader.{read_byte}

-- What a terminal makes of an event: it needs more, or passes wrapping over, or takes note.
abbrev pub noted : Event → List Event
noted More = []
noted (Pressed key) = Pressed key ∷ []
noted (Released key) = Released key ∷ []
noted PauseStruck = PauseStruck ∷ []
noted Wrapping = []
noted Overrun = Overrun ∷ []
noted Unknown = Unknown ∷ []

-- A run of bytes read: where the reader stands afterwards, and the events noted.
pub record Run : Type 0 where
  pub state : ℕ
  pub events : List Event

-- The bytes one after another, from a state on.
unfoldable pub read_all : ℕ → ℕ → List ℕ → Run
read_all set state [] = record { state = state; events = [] }
read_all set state (byte ∷ rest) =
    let answer = read_byte set state byte in
    let later = read_all set answer.state rest in
    record { state = later.state; events = noted answer.event ++ later.events }
