-- What the host is answered, in transcripts from power-on: the replies that reads give (docs/RULES.md, section 11). Assumes nothing.
use Rattle.std.specs.Prelude.{ℕ, List, [], ◌∷◌, ◌++◌, replicate}
use Rattle.frames.specs.Frames.{packed_of}
use Rattle.record.specs.Power.{plain_map}
use Rattle.dock.specs.Calls.{Call, Scan, Swap, Frame}
use Rattle.runs.specs.Stories.{reads, scans, showing}
use Rattle.transcripts.specs.Transcripts.{Transcript, transcript}

-- A byte, and reads until nothing more comes.
unfoldable pub asked : ℕ → List Call
asked byte = Frame (packed_of byte) ∷ reads 4

-- Byte by byte through the table, then commands in place of values, bytes that nobody waits for, and what drops replies.
unfoldable pub dialogues : List Transcript
dialogues =
    transcript [] (reads 2) (0xaa ∷ []) ∷
    transcript [] (asked 0xed ++ asked 7 ++ asked 7) (0xfa ∷ 0xfa ∷ 0xfe ∷ []) ∷
    transcript [] (asked 0xed ++ asked 8 ++ asked 0) (0xfa ∷ 0xfe ∷ 0xfa ∷ []) ∷
    transcript [] (asked 0xee ++ asked 0xef ++ asked 0xf1) (0xee ∷ 0xfe ∷ 0xfe ∷ []) ∷
    transcript [] (asked 0xf0 ++ asked 4 ++ asked 0xec ++ asked 3) (0xfa ∷ 0xfe ∷ 0xfe ∷ 0xfa ∷ []) ∷
    transcript [] (asked 0xf2) (0xfa ∷ 0xab ∷ 0x83 ∷ []) ∷
    transcript [] (asked 0xf3 ++ asked 0x80 ++ asked 0xec ++ asked 0x7f) (0xfa ∷ 0xfe ∷ 0xfe ∷ 0xfa ∷ []) ∷
    transcript [] (asked 0xf4 ++ asked 0xf5 ++ asked 0xf6 ++ asked 0xf7 ++ asked 0xf8 ++ asked 0xf9 ++ asked 0xfa)
    (replicate 7 0xfa) ∷
    transcript [] (asked 0xfb ++ asked 0 ++ asked 0x1c ++ asked 0xfc ++ asked 0x1c ++ asked 0xfd ++ asked 0x1c)
    (0xfa ∷ 0xfe ∷ replicate 5 0xfa) ∷
    -- Which set: that of power-on, and no command waits then; the one that was chosen, asked twice; that of F6.
    transcript [] (asked 0xf0 ++ asked 0 ++ asked 0) (0xfa ∷ 0xfa ∷ 2 ∷ 0xfe ∷ []) ∷
    transcript (asked 0xf0 ++ asked 3) (asked 0xf0 ++ asked 0 ++ asked 0xf0 ++ asked 0 ++ asked 0xf6 ++ asked 0xf0 ++ asked 0)
    (0xfa ∷ 0xfa ∷ 3 ∷ 0xfa ∷ 0xfa ∷ 3 ∷ 0xfa ∷ 0xfa ∷ 0xfa ∷ 2 ∷ []) ∷
    -- FE, a wrong value and two commands in front of 00: the first two leave F0 waiting.
    transcript (asked 0xf0 ++ asked 1) (asked 0xf0 ++ asked 0xfe ++ asked 0) (0xfa ∷ 0xfa ∷ 0xfa ∷ 1 ∷ []) ∷
    transcript (asked 0xf0 ++ asked 1) (asked 0xf0 ++ asked 4 ++ asked 0) (0xfa ∷ 0xfe ∷ 0xfa ∷ 1 ∷ []) ∷
    transcript [] (asked 0xf0 ++ asked 0xee ++ asked 0) (0xfa ∷ 0xee ∷ 0xfe ∷ []) ∷
    transcript [] (asked 0xf0 ++ asked 0xf3 ++ asked 0) (0xfa ∷ 0xfa ∷ 0xfa ∷ []) ∷
    -- The set is a reply like any: the next frame drops it, and FE has it sent again.
    transcript [] (asked 0xf0 ++ Frame (packed_of 0) ∷ reads 1 ++ asked 0xee) (0xfa ∷ 0xfa ∷ 0xee ∷ []) ∷
    transcript [] (asked 0xf0 ++ asked 0 ++ asked 0xfe) (0xfa ∷ 0xfa ∷ 2 ∷ 2 ∷ []) ∷
    -- A command in place of a value.
    transcript [] (asked 0xf3 ++ asked 0xef ++ asked 0) (0xfa ∷ 0xfe ∷ 0xfe ∷ []) ∷
    -- A byte with no command waiting; a broken frame; one over 2047 leaves the replies as they are.
    transcript [] (asked 0 ++ asked 0xec ++ Frame 0 ∷ Frame 2048 ∷ reads 2) (0xfe ∷ 0xfe ∷ 0xfe ∷ []) ∷
    -- A new frame drops the replies that wait, a broken one too.
    transcript [] (Frame (packed_of 0xf2) ∷ reads 1 ++ asked 0xee) (0xfa ∷ 0xee ∷ []) ∷
    transcript [] (Frame (packed_of 0xf2) ∷ reads 1 ++ Frame 0 ∷ reads 3) (0xfa ∷ 0xfe ∷ []) ∷
    -- Nothing else does.
    transcript [] (Frame (packed_of 0xf2) ∷ Scan [] ∷ scans 3 (showing 0 4) ++ Swap plain_map ∷ reads 9) (0xfa ∷ 0xab ∷ 0x83 ∷ []) ∷
    -- FE: no byte given yet; the last one given, of either kind, that was not FE; a command goes on waiting.
    transcript [] (asked 0xfe) (0xfe ∷ []) ∷
    transcript [] (reads 1 ++ asked 0xfe ++ asked 0xef ++ asked 0xfe) (0xaa ∷ 0xaa ∷ 0xfe ∷ 0xaa ∷ []) ∷
    transcript [] (reads 1 ++ scans 3 (showing 0 4) ++ reads 1 ++ asked 0xfe) (0xaa ∷ 0x1e ∷ []) ∷
    transcript [] (reads 1 ++ Frame (packed_of 0xee) ∷ asked 0xfe) (0xaa ∷ 0xaa ∷ []) ∷
    transcript [] (asked 0xf3 ++ asked 0xfe ++ asked 0) (0xfa ∷ 0xfa ∷ 0xfa ∷ []) ∷
    transcript [] (reads 1 ++ Frame (packed_of 0xff) ∷ asked 0xfe) (0xaa ∷ 0xfe ∷ []) ∷
    transcript [] (asked 0xff ++ asked 0xfe) (0xfa ∷ 0xaa ∷ 0xaa ∷ []) ∷
    []
