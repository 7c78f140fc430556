-- Stories: calls up to a start, calls after it, and the keys that are down in the end (docs/RULES.md, section 13). Assumes nothing.
use Rattle.std.specs.Prelude.{ℕ, suc, Bool, true, List, [], ◌∷◌, eqb, replicate, set}
use Rattle.basics.specs.Choice.{pick}
use Rattle.frames.specs.Frames.{packed_of}
use Rattle.history.specs.Rows.{says_closed}
use Rattle.history.specs.Scans.{shown_at}
use Rattle.runs.specs.Bytes.{given_in}
use Rattle.dock.specs.Calls.{Call, Scan, Frame, Read}
use Rattle.runs.specs.Machines.{ours, nothing_waits}
use Rattle.runs.specs.Worlds.{woken, after_calls}
use Rattle.runs.specs.Runs.{may_begin, beginning, undisturbed}
use Rattle.keys.specs.Named.{pause_key}

-- What the calls of a story come to: may the terminal begin, is it left undisturbed, does nothing wait in the end, which keys does it
-- find down, and which do the scans say are held. And the key bytes that were given.
pub record Outcome : Type 0 where
  pub begins : Bool
  pub undisturbed : Bool
  pub quiet : Bool
  pub down : List ℕ
  pub said : List ℕ
  pub bytes : List ℕ

-- The places, counted from i, of flags that are not 0.
unfoldable pub flagged : ℕ → List ℕ → List ℕ
flagged i [] = []
flagged i (flag ∷ flags) = let rest = flagged (suc i) flags in pick (eqb flag 0) rest (i ∷ rest)

-- The keys of a map, from a position on, whose contacts the scans say are closed.
unfoldable pub said_from : ℕ → List ℕ → List (List ℕ) → List ℕ
said_from position [] scans = []
said_from position (key ∷ keys) scans =
    let rest = said_from (suc position) keys scans in
    pick (says_closed (shown_at position scans)) (key ∷ rest) rest

-- The outcome of calls after others since power-on.
unfoldable pub outcome : List Call → List Call → Outcome
outcome earlier calls =
    let start = beginning (after_calls ours (woken ours) earlier) in
    let end = after_calls ours start calls in
    record {
      begins = may_begin ours start;
      undisturbed = undisturbed ours start calls;
      quiet = nothing_waits ours end.dock;
      down = flagged 0 end.terminal.down;
      said = said_from 0 end.onlooker.map end.onlooker.scans;
      bytes = given_in start calls;
    }

-- All as demand 3 has it: these bytes were given, and these keys are down.
abbrev pub agreeing : List ℕ → List ℕ → Outcome
agreeing bytes keys = record { begins = true; undisturbed = true; quiet = true; down = keys; said = keys; bytes = bytes }

-- The same but for PAUSE, which is held and is never down.
abbrev pub pause_apart : List ℕ → Outcome
pause_apart bytes = record { begins = true; undisturbed = true; quiet = true; down = []; said = pause_key ∷ []; bytes = bytes }

-- Calls up to a start, calls after it, and what they come to.
pub record Story : Type 0 where
  pub earlier : List Call
  pub calls : List Call
  pub end : Outcome

-- A story of these parts.
abbrev pub story : List Call → List Call → Outcome → Story
story earlier calls end = record { earlier = earlier; calls = calls; end = end }

-- So many reads.
abbrev pub reads : ℕ → List Call
reads n = replicate n Read

-- A byte from the host, and the read of its reply.
unfoldable pub host : ℕ → List Call
host byte = Frame (packed_of byte) ∷ Read ∷ []

-- So many scans that show the same.
abbrev pub scans : ℕ → List ℕ → List Call
scans n scan = replicate n (Scan scan)

-- A scan of a plain panel with nothing closed,
unfoldable pub nothing : List ℕ
nothing = replicate 18 0

-- with one column like this,
unfoldable pub showing : ℕ → ℕ → List ℕ
showing column rows = set (replicate 18 0) column rows

-- and with another column too.
unfoldable pub showing_too : ℕ → ℕ → List ℕ → List ℕ
showing_too column rows scan = set scan column rows
