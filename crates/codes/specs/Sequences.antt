-- The bytes of an action as the code hands them on (docs/RULES.md, section 3): eight places and how many are taken. Assumes nothing.
use Rattle.std.specs.Prelude.{ℕ, ◌-◌, ◌+◌, List, [], ◌∷◌, ◌++◌, length, replicate, set}
use Rattle.codes.specs.declared.Sequence.{Sequence}

-- A sequence that holds these bytes, zeros behind them.
unfoldable pub holding : List ℕ → Sequence
holding bytes = record { bytes = bytes ++ replicate (8 - length bytes) 0; length = length bytes }

-- A sequence with further bytes put behind its own.
unfoldable pub adding : Sequence → List ℕ → Sequence
adding s [] = s
adding s (byte ∷ rest) = adding (record { bytes = set s.bytes s.length byte; length = s.length + 1 }) rest
