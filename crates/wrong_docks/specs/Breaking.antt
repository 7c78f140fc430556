-- Runs that break demand 3 (docs/RULES.md, section 13). Assumes nothing.
use Rattle.std.specs.Prelude.{ℕ, Bool, true, false, not, List, eqb}
use Rattle.basics.specs.Choice.{both, between}
use Rattle.keys.specs.Keys.{last_key}
use Rattle.keys.specs.Named.{pause_key}
use Rattle.dock.specs.Calls.{Call}
use Rattle.runs.specs.Machines.{Machine, nothing_waits}
use Rattle.runs.specs.Worlds.{woken, after_calls, scans_say}
use Rattle.runs.specs.Runs.{may_begin, beginning, undisturbed}
use Rattle.runs.specs.Demand.{end_of}
use Rattle.terminal.specs.Terminals.{is_down}

-- Two answers differ.
abbrev pub differ : Bool → Bool → Bool
differ true b = not b
differ false b = b

-- All that demand 3 asks for is met, and yet the terminal and the scans say different things of a key.
unfoldable pub breaks : Machine → List Call → List Call → ℕ → Bool
breaks m earlier calls key =
    let before = after_calls m (woken m) earlier in
    let end = end_of m earlier calls in
    both (may_begin m before)
    (both (undisturbed m (beginning before) calls)
    (both (nothing_waits m end.dock)
    (both (between 1 last_key key)
    (both (not (eqb key pause_key))
    (differ (is_down end.terminal key) (scans_say end key))))))

-- A dock, the run that breaks the demand, and the key about which they differ.
pub record Wrong : Type 0 where
  pub machine : Machine
  pub earlier : List Call
  pub calls : List Call
  pub key : ℕ

-- A wrong dock of these parts.
abbrev pub wrong : Machine → List Call → List Call → ℕ → Wrong
wrong machine earlier calls key = record { machine = machine; earlier = earlier; calls = calls; key = key }
