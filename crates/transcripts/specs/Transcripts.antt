-- Transcripts of calls (docs/RULES.md): what reads give on the way.
-- Assumes nothing. Edits of must-fail/ put what they import in the place of these two lines.
use Rattle.std.specs.Prelude.{ℕ, Bool, true, List, [], ◌∷◌, ◌++◌, Option, Some, None, Result, Ok}
use Rattle.basics.specs.Choice.{both}
use Rattle.basics.specs.Lists.{same}
use Rattle.dock.specs.declared.Given.{Given}
use Rattle.dock.specs.declared.Given.TheVariants.{Reply}
use Rattle.dock.specs.declared.Refusal.{Refusal}
use Rattle.dock.specs.Answers.{Taken, taken}
use Rattle.dock.specs.Scan.{scan_of}
use Rattle.dock.specs.Swap.{swap_of}
use Rattle.dock.specs.Frame.{frame_of}
use Rattle.dock.specs.Read.{read_of}
use Rattle.record.specs.declared.Dock.{Dock}
use Rattle.record.specs.Power.{power_on}
use Rattle.dock.specs.Calls.{Call, Scan, Swap, Frame, Read}

-- One call: what it gives, and the dock after it. Only a read gives something.
abbrev pub called : Dock → Call → Taken
called d (Scan scan) = taken (Ok None) (scan_of d scan).dock
called d (Swap map) = taken (Ok None) (swap_of d map).dock
called d (Frame number) = taken (Ok None) (frame_of d number).dock
called d Read = read_of d

-- The dock after some calls.
unfoldable pub reached : Dock → List Call → Dock
reached d [] = d
reached d (call ∷ calls) = reached (called d call).dock calls

-- What the calls give, of one kind.
unfoldable pub gives : (Result (Option Given) Refusal → List ℕ) → Dock → List Call → List ℕ
gives of-kind d [] = []
gives of-kind d (call ∷ calls) = let t = called d call in of-kind t.given ++ gives of-kind t.dock calls

-- The reply among what a read gives.
abbrev pub reply_of : Result (Option Given) Refusal → List ℕ
reply_of (Ok (Some (Reply byte))) = byte ∷ []
reply_of other = []

-- Calls that lead up to something, calls after them, and what these are to give.
pub record Transcript : Type 0 where
  pub earlier : List Call
  pub calls : List Call
  pub given : List ℕ

-- A transcript of these parts.
abbrev pub transcript : List Call → List Call → List ℕ → Transcript
transcript earlier calls given = record { earlier = earlier; calls = calls; given = given }

-- All of these transcripts come out: from power-on the calls give, of one kind, what they are to give.
unfoldable pub come_out : (Result (Option Given) Refusal → List ℕ) → List Transcript → Bool
come_out of-kind [] = true
come_out of-kind (t ∷ ts) = both (same (gives of-kind (reached power_on t.earlier) t.calls) t.given) (come_out of-kind ts)
