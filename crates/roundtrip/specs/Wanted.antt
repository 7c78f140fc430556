-- What a terminal is to find in the bytes of an action (docs/RULES.md, section 4), in the words of the rules and not by the definitions of
-- codes. Assumes nothing.
use Rattle.std.specs.Prelude.{ℕ, Bool, not, List, [], ◌∷◌, eqb, leb}
use Rattle.basics.specs.Choice.{pick, both, either}
use Rattle.keys.specs.Named.{pause_key}
use Rattle.codes.specs.declared.Action.{Action}
use Rattle.codes.specs.declared.Action.TheVariants.{Press, Release, Repeat}
use Rattle.reader.specs.declared.Event.{Event}
use Rattle.reader.specs.declared.Event.TheVariants.{Pressed, Released, PauseStruck}

-- PAUSE is struck in sets 1 and 2, and does not come up.
abbrev pub is_struck : ℕ → ℕ → Bool
is_struck set key = both (eqb key pause_key) (not (eqb set 3))

-- The types of set 3: 0 Typematic, 1 Make/Break, 2 Make, 3 Typematic/Make/Break. The two with Break tell of a release,
abbrev pub tells_release : ℕ → ℕ → Bool
tells_release set type = either (not (eqb set 3)) (either (eqb type 1) (eqb type 3))

-- the two with Typematic repeat; PAUSE never does.
abbrev pub repeats : ℕ → ℕ → ℕ → Bool
repeats set key type = both (not (eqb key pause_key)) (either (not (eqb set 3)) (either (eqb type 0) (eqb type 3)))

-- Nothing is heard of keys 105 to 125 in set 3.
abbrev pub is_unheard : ℕ → ℕ → Bool
is_unheard set key = both (eqb set 3) (leb 105 key)

-- The key and the event, where there are bytes: a repeat reads as a press, and PAUSE is struck in sets 1 and 2.
unfoldable pub wanted : ℕ → ℕ → Action → ℕ → List Event
wanted set key Press type = pick (is_unheard set key) [] (pick (is_struck set key) (PauseStruck ∷ []) (Pressed key ∷ []))
wanted set key Release type = pick (is_unheard set key) [] (pick (is_struck set key) [] (pick (tells_release set type) (Released key ∷ []) []))
wanted set key Repeat type = pick (is_unheard set key) [] (pick (repeats set key type) (Pressed key ∷ []) [])
