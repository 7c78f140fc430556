-- Calls from C, one after the other, on the same lent bytes (docs/RULES.md, section 14). Assumes nothing.
use Rattle.std.specs.Prelude.{ℕ, List, [], ◌∷◌}
use Rattle.dock.specs.Calls.{Call, Scan, Swap, Frame, Read, as_bytes}
use Rattle.lent.specs.Lent.{bytes_after}

-- A call as C makes it: what is lent as a scan are bytes.
abbrev pub passed : Call → Call
passed (Scan scan) = Scan (as_bytes scan)
passed (Swap map) = Swap map
passed (Frame number) = Frame number
passed Read = Read

-- The bytes after any calls.
unfoldable pub lent_after : List ℕ → List Call → List ℕ
lent_after l [] = l
lent_after l (call ∷ calls) = lent_after (bytes_after (passed call) l) calls
