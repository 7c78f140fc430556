-- Demand 3 of any dock (docs/RULES.md, section 13). Start at any moment since power-on when nothing waits, no key is held, no command
-- waits for its value, and set 1 or 2 is chosen; a terminal begins to read there with no key down. After any calls in which no frame's byte
-- clears the queue and the queue does not overrun: when nothing waits, the keys that the terminal finds down are exactly those that the
-- counted scans say are held, Pause apart. Assumes nothing.
use Rattle.std.specs.Prelude.{ℕ, ◌≤◌, ◌≡◌, true, List}
use Rattle.keys.specs.Keys.{last_key}
use Rattle.keys.specs.Named.{pause_key}
use Rattle.terminal.specs.Terminals.{is_down}
use Rattle.dock.specs.Calls.{Call}
use Rattle.runs.specs.Machines.{Machine, nothing_waits}
use Rattle.runs.specs.Worlds.{World, woken, after_calls, scans_say}
use Rattle.runs.specs.Runs.{may_begin, beginning, undisturbed}

-- The world at the end of a run: some calls since power-on, and calls after the terminal began.
unfoldable pub end_of : Machine → List Call → List Call → World
end_of m earlier calls = after_calls m (beginning (after_calls m (woken m) earlier)) calls

pub record Premises (m : Machine) (earlier calls : List Call) : Type 0 where
  pub begins : may_begin m (after_calls m (woken m) earlier) ≡ true
  pub calm : undisturbed m (beginning (after_calls m (woken m) earlier)) calls ≡ true
  pub nothing : nothing_waits m (end_of m earlier calls).dock ≡ true

abbrev pub ThirdDemand : Machine → Type 0
ThirdDemand m =
    (earlier calls : List Call) → Premises m earlier calls → (key : ℕ) → 1 ≤ key → key ≤ last_key → (key ≡ pause_key → ⊥)
    → is_down (end_of m earlier calls).terminal key ≡ scans_say (end_of m earlier calls) key
