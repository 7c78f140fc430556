-- The values that commands wait for, and any byte from the host (docs/RULES.md, section 11). Assumes nothing.
use Rattle.std.specs.Prelude.{ℕ, ◌+◌, ◌-◌, Bool, true, false, List, [], ◌∷◌, eqb, leb, set, Option, Some, None}
use Rattle.basics.specs.Choice.{pick, between}
use Rattle.basics.specs.Said.{Said}
use Rattle.hostbytes.specs.Named as host
use Rattle.keys.specs.Keys.{code_in}
use Rattle.lookup.specs.Lookup.{key_with}
use Rattle.record.specs.declared.Dock.{Dock}
use Rattle.record.specs.Parts.{with_mode, with_types, with_waiting}
use Rattle.commands.specs.Commands.{replying, with_set, with_rate, commanded}
use Rattle.host.specs.declared.values.Asked.{Asked}
use Rattle.host.specs.declared.values.Asked.TheVariants.{Indicators, Set, WhichSet, Rate, KeyType}

-- What a value asks of a command: indicators 0 to 7, a set, which set is in use, a rate below 80, the type of the key that has the value
-- for its set 3 code. No other byte takes a value, and all other values are wrong.
unfoldable pub asked_of : ℕ → ℕ → Option Asked
asked_of command value =
    pick (eqb command host.indicators) (pick (leb value 7) (Some (Indicators value)) None)
    (pick (eqb command host.choose_set)
    (pick (between 1 3 value) (Some (Set value)) (pick (eqb value host.which_set) (Some WhichSet) None))
    (pick (eqb command host.rate) (pick (leb value 127) (Some (Rate value)) None)
    (pick (between host.key_type host.last_key_type command)
    (pick (eqb (key_with 3 value) 0) None (Some (KeyType (key_with 3 value) (command - host.key_type))))
    None)))

-- A value, said to a command by its number, and nothing said to any.
abbrev pub to_command : ℕ → ℕ → Said
to_command command value = record { number = command; values = value ∷ [] }

abbrev pub to_none : Said
to_none = record { number = 0; values = [] }

-- What each case says: the number of the command, and the value. A wrong one says nothing.
abbrev pub asked_says : Option Asked → Said
asked_says (Some (Indicators indicators)) = to_command host.indicators indicators
asked_says (Some (Set set)) = to_command host.choose_set set
asked_says (Some WhichSet) = to_command host.choose_set host.which_set
asked_says (Some (Rate rate)) = to_command host.rate rate
asked_says (Some (KeyType key type)) = to_command (host.key_type + type) (code_in 3 key)
asked_says None = to_none

-- A value is right if it asks for something.
abbrev pub is_right : Option Asked → Bool
is_right (Some asked) = true
is_right None = false

-- What is said of a command and a value that is right for it: these two.
unfoldable pub asked_said : ℕ → ℕ → Said
asked_said command value = pick (is_right (asked_of command value)) (to_command command value) to_none

-- The indicators replaced, and the type of one key.
abbrev pub with_indicators : ℕ → Dock → Dock
with_indicators indicators d = with_mode d (record { set = d.rest.mode.set; rate = d.rest.mode.rate; indicators = indicators })

abbrev pub with_type : ℕ → ℕ → Dock → Dock
with_type key type d = with_types d (set d.types key type)

-- A right value ends the wait, and is answered with FA first.
abbrev pub granted : List ℕ → Dock → Dock
granted more d = replying (host.acknowledged ∷ more) (with_waiting d 0)

-- What a value does. Asked for the set, the dock gives it as a second reply; a wrong value leaves its command waiting.
unfoldable pub valued : Option Asked → Dock → Dock
valued (Some (Indicators indicators)) d = granted [] (with_indicators indicators d)
valued (Some (Set set)) d = granted [] (with_set set d)
valued (Some WhichSet) d = granted (d.rest.mode.set ∷ []) d
valued (Some (Rate rate)) d = granted [] (with_rate rate d)
valued (Some (KeyType key type)) d = granted [] (with_type key type d)
valued None d = replying (host.resend ∷ []) d

-- A byte below ED: a value for the command that waits, if one does.
abbrev pub took_value : ℕ → Dock → Dock
took_value byte d = valued (asked_of d.rest.waiting byte) d

-- A host byte. FE has the last byte sent again and lets a command go on waiting.
unfoldable pub took_byte : ℕ → Dock → Dock
took_byte byte d =
    pick (eqb byte host.resend) (replying (d.rest.given ∷ []) d)
    (pick (leb host.first_command byte) (commanded byte d) (took_value byte d))
