-- A terminal reads key bytes and keeps which keys are down (docs/RULES.md, sections 4 and 13). Assumes nothing.
use Rattle.std.specs.Prelude.{ℕ, Bool, not, List, [], ◌∷◌, eqb, get_or, set, replicate}
use Rattle.reader.specs.declared.Event.{Event}
use Rattle.reader.specs.declared.Event.TheVariants.{More, Pressed, Released, PauseStruck, Wrapping, Overrun, Unknown}
use Rattle.reader.specs.Reader.{read_byte}

-- The reader's state, and by key number 1 for a key that is down, else 0.
pub record Terminal : Type 0 where
  pub state : ℕ
  pub down : List ℕ

-- A terminal of these parts.
abbrev pub terminal : ℕ → List ℕ → Terminal
terminal state down = record { state = state; down = down }

-- A terminal that begins to read, with no key down.
unfoldable pub begun : Terminal
begun = terminal 0 (replicate 144 0)

-- A press puts its key down and a release takes it up. Pause is struck and not held; wrapping is no key.
abbrev pub noticed : Event → List ℕ → List ℕ
noticed More down = down
noticed (Pressed key) down = set down key 1
noticed (Released key) down = set down key 0
noticed PauseStruck down = down
noticed Wrapping down = down
noticed Overrun down = down
noticed Unknown down = down

-- One key byte of a set.
unfoldable pub hears : ℕ → Terminal → ℕ → Terminal
hears set t byte =
    let answer = read_byte set t.state byte in
    terminal answer.state (noticed answer.event t.down)

-- One byte after the other.
unfoldable pub hears_all : ℕ → Terminal → List ℕ → Terminal
hears_all set t [] = t
hears_all set t (byte ∷ rest) = hears_all set (hears set t byte) rest

-- The terminal finds a key down.
abbrev pub is_down : Terminal → ℕ → Bool
is_down t key = not (eqb (get_or t.down key 0) 0)
