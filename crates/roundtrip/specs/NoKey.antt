-- Bytes that are no key (docs/RULES.md, section 4), written out: the overrun marks, and the codes that wrap. Assumes nothing.
use Rattle.std.specs.Prelude.{ℕ, Bool, true, false, List, [], ◌∷◌, eqb}
use Rattle.basics.specs.Choice.{pick, either}
use Rattle.basics.specs.Lists.{same}
use Rattle.reader.specs.declared.Event.{Event}
use Rattle.reader.specs.declared.Event.TheVariants.{More, Pressed, Released, PauseStruck, Wrapping, Overrun, Unknown}

-- The mark: FF in set 1, 00 in sets 2 and 3.
abbrev pub is_mark : ℕ → ℕ → Bool
is_mark set byte = eqb byte (pick (eqb set 1) 0xff 0x00)

-- The four wrapping codes of a set, and the end of Ctrl-Pause. Set 3 has none.
unfoldable pub wrappings : ℕ → List (List ℕ)
wrappings set =
    pick (eqb set 1)
    ((0xe0 ∷ 0x2a ∷ []) ∷ (0xe0 ∷ 0xaa ∷ []) ∷ (0xe0 ∷ 0x36 ∷ []) ∷ (0xe0 ∷ 0xb6 ∷ []) ∷ (0xe0 ∷ 0xc6 ∷ []) ∷ [])
    (pick (eqb set 2)
    ((0xe0 ∷ 0x12 ∷ []) ∷ (0xe0 ∷ 0xf0 ∷ 0x12 ∷ []) ∷ (0xe0 ∷ 0x59 ∷ []) ∷ (0xe0 ∷ 0xf0 ∷ 0x59 ∷ []) ∷ (0xe0 ∷ 0xf0 ∷ 0x7e ∷ []) ∷ [])
    [])

-- One of these.
unfoldable pub among : List ℕ → List (List ℕ) → Bool
among bytes [] = false
among bytes (l ∷ ls) = either (same bytes l) (among bytes ls)

-- What an event is.
abbrev pub is_overrun : Event → Bool
is_overrun More = false
is_overrun (Pressed key) = false
is_overrun (Released key) = false
is_overrun PauseStruck = false
is_overrun Wrapping = false
is_overrun Overrun = true
is_overrun Unknown = false

abbrev pub is_wrapping : Event → Bool
is_wrapping More = false
is_wrapping (Pressed key) = false
is_wrapping (Released key) = false
is_wrapping PauseStruck = false
is_wrapping Wrapping = true
is_wrapping Overrun = false
is_wrapping Unknown = false
