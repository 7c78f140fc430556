-- A dock, an onlooker, and a terminal that reads the dock's key bytes (docs/RULES.md, section 13). Assumes nothing.
use Rattle.std.specs.Prelude.{ℕ, Bool, List, [], ◌∷◌, Option, Some, Result, Ok}
use Rattle.dock.specs.declared.Given.{Given}
use Rattle.dock.specs.declared.Given.TheVariants.{KeyByte}
use Rattle.dock.specs.declared.Refusal.{Refusal}
use Rattle.frames.specs.Frames.{unpacked_of}
use Rattle.history.specs.Scans.{says_held}
use Rattle.record.specs.declared.Dock.{Dock}
use Rattle.terminal.specs.Terminals.{Terminal, begun, hears}
use Rattle.dock.specs.Calls.{Call, Scan, Swap, Frame, Read, as_bytes}
use Rattle.runs.specs.Onlookers.{Onlooker, at_power_on, saw_scan, saw_swap, saw_frame}
use Rattle.runs.specs.Machines.{Machine, key_left}

-- The terminal reads by one set.
pub record World : Type 0 where
  pub dock : Dock
  pub onlooker : Onlooker
  pub set : ℕ
  pub terminal : Terminal

-- A world of these parts.
abbrev pub world : Dock → Onlooker → ℕ → Terminal → World
world dock onlooker set terminal = record { dock = dock; onlooker = onlooker; set = set; terminal = terminal }

-- The terminal takes a key byte, and nothing else that a read gives.
abbrev pub takes : ℕ → Result (Option Given) Refusal → Terminal → Terminal
takes set (Ok (Some (KeyByte byte))) t = hears set t byte
takes set other t = t

-- Power-on.
unfoldable pub woken : Machine → World
woken m = world m.wakes at_power_on 2 begun

-- One call.
unfoldable pub next : Machine → World → Call → World
next m w (Scan scan) =
    let bytes = as_bytes scan in
    world (m.scanned w.dock bytes) (saw_scan (key_left w.dock) bytes w.onlooker) w.set w.terminal
next m w (Swap map) = world (m.swapped w.dock map) (saw_swap map w.onlooker) w.set w.terminal
next m w (Frame number) = world (m.framed w.dock number) (saw_frame (unpacked_of number) w.onlooker) w.set w.terminal
next m w Read =
    let taken = m.read w.dock in
    world taken.dock w.onlooker w.set (takes w.set taken.given w.terminal)

-- Any calls, one after the other.
unfoldable pub after_calls : Machine → World → List Call → World
after_calls m w [] = w
after_calls m w (call ∷ calls) = after_calls m (next m w call) calls

-- The keys that the counted scans say are held, on the panel that is clipped on.
abbrev pub scans_say : World → ℕ → Bool
scans_say w key = says_held w.onlooker.map w.onlooker.scans key
