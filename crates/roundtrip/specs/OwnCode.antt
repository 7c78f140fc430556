-- The code of a key, as bytes (docs/RULES.md, sections 3 and 4). Assumes nothing.
use Rattle.std.specs.Prelude.{◌≡◌, true, List, ◌⊎◌, ℕ, ◌≤◌}
use Rattle.keys.specs.Keys.{last_key}
use Rattle.keys.specs.Named.{pause_key}
use Rattle.codes.specs.declared.Form.TheVariants.{Plain, Other}
use Rattle.codes.specs.Codes.{make_of, break_of, has_code, code_of, pause_bytes}

-- These bytes are what a key that has a code in a set sends when it goes down, wrapping apart: its code, or that of its other form. Set 3
-- has no other form: what would be the code of one there is that of another key.
pub record GoesDown (set key : ℕ) (bytes : List ℕ) : Type 0 where
  pub low : 1 ≤ key
  pub high : key ≤ last_key
  pub coded : has_code set key ≡ true
  pub code : (bytes ≡ make_of (code_of set key Plain)) ⊎ ((set ≡ 3 → ⊥) × (bytes ≡ make_of (code_of set key Other)))

-- The same when it comes up.
pub record ComesUp (set key : ℕ) (bytes : List ℕ) : Type 0 where
  pub low : 1 ≤ key
  pub high : key ≤ last_key
  pub coded : has_code set key ≡ true
  pub code : (bytes ≡ break_of set (code_of set key Plain)) ⊎ ((set ≡ 3 → ⊥) × (bytes ≡ break_of set (code_of set key Other)))

-- These bytes tell that PAUSE was struck: all that it sends by itself, or the make of its code, with which it begins under a CTRL. In set 3
-- it is a key like any other.
pub record StrikesPause (set : ℕ) (bytes : List ℕ) : Type 0 where
  pub apart : set ≡ 3 → ⊥
  pub code : (bytes ≡ pause_bytes set Plain) ⊎ (bytes ≡ make_of (code_of set pause_key Plain))
