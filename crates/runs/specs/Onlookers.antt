-- What an onlooker knows who hears every call of a dock (docs/RULES.md, section 13). Assumes nothing.
use Rattle.std.specs.Prelude.{ℕ, Bool, true, false, not, List, [], ◌∷◌, ◌++◌, eqb, leb, length, Result, Ok, Err}
use Rattle.basics.specs.Choice.{pick, both}
use Rattle.basics.specs.Lists.{all_up_to}
use Rattle.frames.specs.declared.FrameError.{FrameError}
use Rattle.keys.specs.Keys.{last_key}
use Rattle.maps.specs.Maps.{has_double}
use Rattle.record.specs.Power.{plain_map}
use Rattle.runs.specs.Rules.{one_of, looks_phantom, sets, values_for, waits_for_value}

-- The map of the panel that is clipped on, whether scanning is on, the command that waits for its value (0 for none), the set that is
-- chosen, and the scans counted since the last power-on, reset or swap, in the order in which they came.
pub record Onlooker : Type 0 where
  pub map : List ℕ
  pub scanning : Bool
  pub waiting : ℕ
  pub set : ℕ
  pub scans : List (List ℕ)

-- An onlooker who knows this.
abbrev pub onlooker : List ℕ → Bool → ℕ → ℕ → List (List ℕ) → Onlooker
onlooker map scanning waiting set scans = record { map = map; scanning = scanning; waiting = waiting; set = set; scans = scans }

-- Power-on: the plain map, scanning on, no command waits, set 2, no scan was counted.
unfoldable pub at_power_on : Onlooker
at_power_on = onlooker plain_map true 0 2 []

-- A scan is counted if it has 18 bytes, scanning is on, no command waits for its value, no swap is unfinished, and it is not phantom. A
-- swap is unfinished as long as no scan has been counted since and a key of the panel that was taken away is left.
unfoldable pub is_counted_by : Onlooker → Bool → List ℕ → Bool
is_counted_by o left scan =
    let unfinished = both (eqb (length o.scans) 0) left in
    both (eqb (length scan) 18) (both (both o.scanning (both (eqb o.waiting 0) (not unfinished))) (not (looks_phantom scan)))

-- A scan: it joins the others if it is counted.
unfoldable pub saw_scan : Bool → List ℕ → Onlooker → Onlooker
saw_scan left scan o =
    onlooker o.map o.scanning o.waiting o.set (pick (is_counted_by o left scan) (o.scans ++ (scan ∷ [])) o.scans)

-- A map that a swap can bring: 144 entries, each a key or 0, and no key twice.
unfoldable pub is_map : List ℕ → Bool
is_map map = both (eqb (length map) 144) (both (all_up_to last_key map) (not (has_double map)))

-- A swap: with a map it brings another panel, of which no scan was counted yet. What is no map is refused.
unfoldable pub saw_swap : List ℕ → Onlooker → Onlooker
saw_swap map o = pick (is_map map) (onlooker map o.scanning o.waiting o.set []) o

-- Whether scanning is on after a byte from the host: F4 turns it on, F5 off, and the reset on.
unfoldable pub scanning_after : ℕ → Bool → Bool
scanning_after byte scanning = pick (eqb byte 0xf4) true (pick (eqb byte 0xf5) false (pick (eqb byte 0xff) true scanning))

-- The command that waits after a byte: FE leaves it waiting, a command waits if it takes a value, a right value ends the wait.
unfoldable pub waiting_after : ℕ → ℕ → ℕ
waiting_after byte waiting =
    pick (eqb byte 0xfe) waiting
    (pick (leb 0xed byte) (pick (waits_for_value byte) byte 0) (pick (one_of byte (values_for waiting)) 0 waiting))

-- The set after a byte: F5, F6 and the reset choose set 2, and F0 the one that is its value. 00 is none.
unfoldable pub set_after : ℕ → ℕ → ℕ → ℕ
set_after byte waiting set =
    pick (one_of byte (0xf5 ∷ 0xf6 ∷ 0xff ∷ [])) 2 (pick (both (eqb waiting 0xf0) (one_of byte sets)) byte set)

-- A byte from the host. After a reset no scan was counted.
unfoldable pub saw_byte : ℕ → Onlooker → Onlooker
saw_byte byte o =
    onlooker o.map (scanning_after byte o.scanning) (waiting_after byte o.waiting) (set_after byte o.waiting o.set)
    (pick (eqb byte 0xff) [] o.scans)

-- A frame: a broken one and one over 2047 carry no byte.
abbrev pub saw_frame : Result ℕ FrameError → Onlooker → Onlooker
saw_frame (Ok byte) o = saw_byte byte o
saw_frame (Err error) o = o
