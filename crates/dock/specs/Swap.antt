-- A panel swap (docs/RULES.md, section 8). Assumes nothing.
use Rattle.std.specs.Prelude.{true, List, [], ℕ, eqb, length, Ok, Err}
use Rattle.basics.specs.Choice.{pick}
use Rattle.basics.specs.Said.{Said, accepted, refused}
use Rattle.basics.specs.Lists.{all_up_to}
use Rattle.keys.specs.Keys.{last_key}
use Rattle.contacts.specs.Counts.{unseen}
use Rattle.record.specs.declared.Dock.{Dock}
use Rattle.record.specs.Views.{with_repeat, keys_of}
use Rattle.record.specs.Parts.{with_handover, with_keys, with_contacts, with_map}
use Rattle.range.specs.Range.{in_range}
use Rattle.dock.specs.declared.Refusal.TheVariants.{MapLength, MapEntry, MapDouble, BadRecord}
use Rattle.dock.specs.Answers.{Answered, answered}
use Rattle.dock.specs.Closing.{closing}
use Rattle.maps.specs.Maps.{has_double}

-- A swap takes the map, drops contact history and the repeating key, and opens a handover.
unfoldable pub opened : Dock → List ℕ → Dock
opened d map = with_handover (with_keys (with_contacts (with_map d map) unseen) (with_repeat (keys_of d) 0 0)) true

-- A second swap during a handover only replaces the map.
unfoldable pub remapped : Dock → List ℕ → Dock
remapped d map = pick d.rest.handover (with_map d map) (opened d map)

-- Either way the handover goes on at once.
unfoldable pub swapped : Dock → List ℕ → Dock
swapped d map = closing (remapped d map)

-- The swap call: the record first, then the map's length, its entries, and keys that stand twice.
unfoldable pub swap_of : Dock → List ℕ → Answered
swap_of d map =
    pick (in_range d)
    (pick (eqb (length map) 144)
    (pick (all_up_to last_key map)
    (pick (has_double map) (answered (Err MapDouble) d) (answered (Ok tt) (swapped d map)))
    (answered (Err MapEntry) d))
    (answered (Err MapLength) d))
    (answered (Err BadRecord) d)

-- What is said of it, by the table.
unfoldable pub swap_said : Dock → List ℕ → Said
swap_said d map =
    pick (in_range d)
    (pick (eqb (length map) 144)
    (pick (all_up_to last_key map)
    (pick (has_double map) (refused 4) (accepted []))
    (refused 3))
    (refused 2))
    (refused 9)
