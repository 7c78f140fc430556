-- A frame from the host (docs/RULES.md, sections 2 and 11). Assumes nothing.
use Rattle.std.specs.Prelude.{ℕ, [], ◌∷◌, ltb, Ok, Err, Result}
use Rattle.basics.specs.Choice.{pick}
use Rattle.basics.specs.Said.{Said, accepted, refused}
use Rattle.hostbytes.specs.Named as host
use Rattle.frames.specs.declared.FrameError.{FrameError}
use Rattle.frames.specs.declared.FrameError.TheVariants.{Broken, TooLarge}
use Rattle.frames.specs.Frames.{unpacked_of}
use Rattle.commands.specs.Commands.{replying}
use Rattle.host.specs.Values.{took_byte}
use Rattle.record.specs.declared.Dock.{Dock}
use Rattle.range.specs.Range.{in_range}
use Rattle.dock.specs.declared.Refusal.TheVariants.{FrameNumber, BadRecord}
use Rattle.dock.specs.Answers.{Answered, answered}
use Rattle.dock.specs.Closing.{closing}

-- A frame unpacked: a broken one is answered FE.
unfoldable pub took_frame : Result ℕ FrameError → Dock → Answered
took_frame (Ok byte) d = answered (Ok tt) (closing (took_byte byte d))
took_frame (Err Broken) d = answered (Ok tt) (closing (replying (host.resend ∷ []) d))
took_frame (Err TooLarge) d = answered (Err FrameNumber) d

-- The frame call: the record first, then a number over 2047.
unfoldable pub frame_of : Dock → ℕ → Answered
frame_of d number = pick (in_range d) (took_frame (unpacked_of number) d) (answered (Err BadRecord) d)

-- What is said of it, by the table: a broken frame is accepted like a whole one.
unfoldable pub frame_said : Dock → ℕ → Said
frame_said d number = pick (in_range d) (pick (ltb 2047 number) (refused 5) (accepted [])) (refused 9)
