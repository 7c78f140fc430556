-- Which key has a code (docs/RULES.md, section 1). Assumes nothing.
use Rattle.std.specs.Prelude.{ℕ, suc, true, false, List, [], ◌∷◌, eqb, Option, Some, None}
use Rattle.basics.specs.Choice.{pick}
use Rattle.keys.specs.Keys.{Row, rows, row_code, no_code}

-- The first of these rows that has the code in the set, with the rows numbered from `key` on; 0 for none.
unfoldable pub first_with : ℕ → ℕ → ℕ → List Row → ℕ
first_with set code key [] = 0
first_with set code key (r ∷ rest) = elim (eqb (row_code set r) code) [ true ↦ key | false ↦ first_with set code (suc key) rest ]

-- The key with a code in a set, or 0. What stands for no code is nobody's.
unfoldable pub key_with : ℕ → ℕ → ℕ
key_with set code = pick (eqb code no_code) 0 (first_with set code 1 rows)

-- A key as it is found: 0 is none.
abbrev pub found : ℕ → Option ℕ
found key = pick (eqb key 0) None (Some key)
