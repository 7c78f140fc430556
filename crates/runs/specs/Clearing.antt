-- The frames that demand 3 leaves out: they clear the queue (docs/RULES.md, section 13). Assumes nothing.
use Rattle.std.specs.Prelude.{ℕ, Bool, false, eqb, Result, Ok, Err}
use Rattle.basics.specs.Choice.{either, between}
use Rattle.frames.specs.declared.FrameError.{FrameError}
use Rattle.frames.specs.Frames.{unpacked_of}
use Rattle.dock.specs.Calls.{Call, Scan, Swap, Frame, Read}

-- A host byte that clears the key queue: F0, F4 to FD and FF.
unfoldable pub clears : ℕ → Bool
clears byte = either (eqb byte 0xf0) (either (between 0xf4 0xfd byte) (eqb byte 0xff))

-- A frame that carries a byte with some property; a broken one and one over 2047 carry none.
abbrev pub carries : (ℕ → Bool) → Result ℕ FrameError → Bool
carries property (Ok byte) = property byte
carries property (Err error) = false

-- A frame whose byte clears the queue.
unfoldable pub is_clearing : ℕ → Bool
is_clearing number = carries clears (unpacked_of number)

-- A call that clears the queue.
abbrev pub is_clearing_call : Call → Bool
is_clearing_call (Scan scan) = false
is_clearing_call (Swap map) = false
is_clearing_call (Frame number) = is_clearing number
is_clearing_call Read = false
