-- The rules as an onlooker knows them (docs/RULES.md, sections 5 and 11): the phantom test, and which host bytes wait for a value and
-- which values are right. They are said here a second time, in the words of the rules, and not taken from the dock's definitions:
-- agreement/proofs/Rules shows that the dock goes by the same. Assumes nothing.
use Rattle.std.specs.Prelude.{ℕ, zero, suc, ◌+◌, ◌*◌, ◌/◌, ◌%◌, ◌^◌, Bool, false, List, [], ◌∷◌, map, eqb, leb, take}
use Rattle.basics.specs.Choice.{pick, either}
use Rattle.keys.specs.Keys.{Row, rows}

-- A number is one of these.
unfoldable pub one_of : ℕ → List ℕ → Bool
one_of n [] = false
one_of n (x ∷ xs) = either (eqb n x) (one_of n xs)

-- So many numbers from a first one on.
unfoldable pub numbers_from : ℕ → ℕ → List ℕ
numbers_from first zero = []
numbers_from first (suc n) = first ∷ numbers_from (suc first) n

-- The contact in a row of a column: 1 closed, 0 open.
abbrev pub closed_in : ℕ → ℕ → ℕ
closed_in column row = column / 2 ^ row % 2

-- How many of the first n rows are closed in both of two columns.
unfoldable pub in_common : ℕ → ℕ → ℕ → ℕ
in_common zero x y = 0
in_common (suc row) x y = in_common row x y + closed_in x row * closed_in y row

-- A column has two or more closed rows in common with one of these.
unfoldable pub shares_two : ℕ → List ℕ → Bool
shares_two x [] = false
shares_two x (y ∷ ys) = either (leb 2 (in_common 8 x y)) (shares_two x ys)

-- A scan is phantom if two different columns have.
unfoldable pub looks_phantom : List ℕ → Bool
looks_phantom [] = false
looks_phantom (x ∷ xs) = either (shares_two x xs) (looks_phantom xs)

-- The set 3 codes of keys 1 to 104: the others have none.
unfoldable pub set_three_codes : List ℕ
set_three_codes = map (λ (r : Row). r.2) (take 104 rows)

-- The sets: 1 to 3.
unfoldable pub sets : List ℕ
sets = numbers_from 1 3

-- The values that are right for a command: indicators 0 to 7 for ED, a set for F0 or 00, which asks for the one in use, a rate from 00 to
-- 7F for F3, and for FB to FD the code of a key. No other byte takes a value.
unfoldable pub values_for : ℕ → List ℕ
values_for command =
    pick (eqb command 0xed) (numbers_from 0 8)
    (pick (eqb command 0xf0) (0 ∷ sets)
    (pick (eqb command 0xf3) (numbers_from 0 128)
    (pick (one_of command (numbers_from 0xfb 3)) set_three_codes [])))

-- The commands that wait for a value.
unfoldable pub waits_for_value : ℕ → Bool
waits_for_value byte = one_of byte (0xed ∷ 0xf0 ∷ 0xf3 ∷ numbers_from 0xfb 3)
