-- Docks that differ from ours in one rule (docs/RULES.md). Assumes nothing.
use Rattle.std.specs.Prelude.{ℕ, List}
use Rattle.dock.specs.Answers.{Taken}
use Rattle.record.specs.declared.Dock.{Dock}
use Rattle.runs.specs.Machines.{Machine, ours}

-- Our dock with one call done otherwise.
abbrev pub scanning_by : (Dock → List ℕ → Dock) → Machine
scanning_by scanned = record { wakes = ours.wakes; scanned = scanned; swapped = ours.swapped; framed = ours.framed; read = ours.read }

abbrev pub swapping_by : (Dock → List ℕ → Dock) → Machine
swapping_by swapped = record { wakes = ours.wakes; scanned = ours.scanned; swapped = swapped; framed = ours.framed; read = ours.read }

abbrev pub framing_by : (Dock → ℕ → Dock) → Machine
framing_by framed = record { wakes = ours.wakes; scanned = ours.scanned; swapped = ours.swapped; framed = framed; read = ours.read }

abbrev pub reading_by : (Dock → Taken) → Machine
reading_by read = record { wakes = ours.wakes; scanned = ours.scanned; swapped = ours.swapped; framed = ours.framed; read = read }
