-- The reader's states (docs/RULES.md, section 4): what has been read of an unfinished sequence. Assumes nothing.
use Rattle.std.specs.Prelude.{ℕ, List, [], ◌∷◌, get_or}

-- State 0 is between sequences. A beginning that two sets share is one state.
unfoldable pub beginnings : List (List ℕ)
beginnings =
    [] ∷  -- 0
    (0xe0 ∷ []) ∷  -- 1, sets 1 and 2
    (0xf0 ∷ []) ∷  -- 2, sets 2 and 3
    (0xe0 ∷ 0xf0 ∷ []) ∷  -- 3, set 2
    (0xe1 ∷ []) ∷  -- 4, sets 1 and 2
    (0xe1 ∷ 0x1d ∷ []) ∷  -- 5, set 1
    (0xe1 ∷ 0x1d ∷ 0x45 ∷ []) ∷  -- 6, set 1
    (0xe1 ∷ 0x1d ∷ 0x45 ∷ 0xe1 ∷ []) ∷  -- 7, set 1
    (0xe1 ∷ 0x1d ∷ 0x45 ∷ 0xe1 ∷ 0x9d ∷ []) ∷  -- 8, set 1
    (0xe1 ∷ 0x14 ∷ []) ∷  -- 9, set 2
    (0xe1 ∷ 0x14 ∷ 0x77 ∷ []) ∷  -- 10, set 2
    (0xe1 ∷ 0x14 ∷ 0x77 ∷ 0xe1 ∷ []) ∷  -- 11, set 2
    (0xe1 ∷ 0x14 ∷ 0x77 ∷ 0xe1 ∷ 0xf0 ∷ []) ∷  -- 12, set 2
    (0xe1 ∷ 0x14 ∷ 0x77 ∷ 0xe1 ∷ 0xf0 ∷ 0x14 ∷ []) ∷  -- 13, set 2
    (0xe1 ∷ 0x14 ∷ 0x77 ∷ 0xe1 ∷ 0xf0 ∷ 0x14 ∷ 0xf0 ∷ []) ∷  -- 14, set 2
    []

-- The bytes that led to a state.
unfoldable pub seen : ℕ → List ℕ
seen state = get_or beginnings state []
