-- A terminal hears bytes in any portions, and keeps what the reader's events say, one after the other. Assumes nothing.
use mathlib.Core.Path.{◌≡◌, refl, sym, ap, ◌∙◌}
use mathlib.Core.List.{List, [], ◌∷◌, ◌++◌}
use Prim.Native.Nat.{ℕ, ◌≤◌}
use native.Mathlib.Nat.{not-suc-le-zero}
use lib.ListN.{length, get_or, drop}
use Rattle.reader.specs.declared.Event.{Event}
use Rattle.reader.specs.declared.Event.TheVariants.{More, Pressed, Released, PauseStruck, Wrapping, Overrun, Unknown}
use Rattle.reader.specs.Reader.{read_byte}
use Rattle.reader.specs.Reading.{noted, read_all}
use Rattle.terminal.specs.Terminals.{Terminal, terminal, noticed, hears, hears_all}

pub hears_more : (s : ℕ) (t : Terminal) (a b : List ℕ) → hears_all s t (a ++ b) ≡ hears_all s (hears_all s t a) b
unfolding hears_all
hears_more s t [] b = refl
hears_more s t (byte ∷ a) b = hears_more s (hears s t byte) a b

-- The oldest byte first, then those behind it.
pub hears_first : (s : ℕ) (t : Terminal) (bytes : List ℕ) → 1 ≤ length bytes
    → hears_all s (hears s t (get_or bytes 0 0)) (drop 1 bytes) ≡ hears_all s t bytes
unfolding hears_all
hears_first s t [] some = absurd (not-suc-le-zero some)
hears_first s t (byte ∷ rest) some = refl

-- Events noticed one after the other.
abbrev pub noticed_all : List Event → List ℕ → List ℕ
noticed_all [] down = down
noticed_all (event ∷ events) down = noticed_all events (noticed event down)

-- The events that the reader does not note change nothing.
noted_noticed : (event : Event) (events : List Event) (down : List ℕ)
    → noticed_all (noted event ++ events) down ≡ noticed_all events (noticed event down)
noted_noticed More events down = refl
noted_noticed (Pressed key) events down = refl
noted_noticed (Released key) events down = refl
noted_noticed PauseStruck events down = refl
noted_noticed Wrapping events down = refl
noted_noticed Overrun events down = refl
noted_noticed Unknown events down = refl

-- So a terminal is the reader and what its events left.
pub hears_events : (s state : ℕ) (down bytes : List ℕ)
    → hears_all s (terminal state down) bytes ≡ terminal (read_all s state bytes).state (noticed_all (read_all s state bytes).events down)
unfolding hears_all hears read_all
hears_events s state down [] = refl
hears_events s state down (byte ∷ rest) =
    let answer = read_byte s state byte in
    let later = read_all s answer.state rest in
    hears_events s answer.state (noticed answer.event down) rest
    ∙ ap (terminal later.state) (sym (noted_noticed answer.event later.events down))
