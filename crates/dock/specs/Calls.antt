-- The calls of a dock (docs/RULES.md). Assumes nothing.
use Rattle.std.specs.Prelude.{ℕ, ◌%◌, List, map}

-- Any call with anything in it: numbers, as many as there may be, as a scan or a map, and any number as a frame.
pub data Call : Type 0 where
  Scan : List ℕ → Call
  Swap : List ℕ → Call
  Frame : ℕ → Call
  Read : Call

-- The bytes of a scan: each number counts as the byte that it leaves.
abbrev pub as_bytes : List ℕ → List ℕ
as_bytes scan = map (λ (n : ℕ). n % 256) scan
