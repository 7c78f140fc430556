-- Upper-case hexadecimal digits (docs/RULES.md, section 12). Assumes nothing.
use Rattle.std.specs.Prelude.{ℕ, zero, suc, ◌+◌, ◌*◌, ◌-◌, ◌≡◌, Bool, true, List, [], ◌∷◌, leb, length, get_or}
use Rattle.basics.specs.Choice.{pick, both, either, between}

-- The characters 0 to 9 and A to F.
abbrev pub is_digit : ℕ → Bool
is_digit c = either (between 48 57 c) (between 65 70 c)

-- What a digit stands for.
abbrev pub value_of : ℕ → ℕ
value_of c = pick (leb c 57) (c - 48) (c - 55)

-- Every character is a digit.
unfoldable pub all_digits : List ℕ → Bool
all_digits [] = true
all_digits (c ∷ cs) = both (is_digit c) (all_digits cs)

-- A line of n digits.
abbrev pub Digits : ℕ → List ℕ → Type 0
Digits n line = record { size : length line ≡ n; digits : all_digits line ≡ true }

-- The byte that the digits 2 i and 2 i + 1 stand for.
unfoldable pub byte_at : List ℕ → ℕ → ℕ
byte_at line i = 16 * value_of (get_or line (2 * i) 0) + value_of (get_or line (2 * i + 1) 0)

-- n bytes, from the i-th on.
unfoldable pub bytes_from : List ℕ → ℕ → ℕ → List ℕ
bytes_from line i zero = []
bytes_from line i (suc n) = byte_at line i ∷ bytes_from line (suc i) n

-- The number that three digits stand for.
abbrev pub frame_in : List ℕ → ℕ
frame_in line = 256 * value_of (get_or line 0 0) + 16 * value_of (get_or line 1 0) + value_of (get_or line 2 0)

-- The digit of a number below 16.
abbrev pub digit_of : ℕ → ℕ
digit_of n = pick (leb n 9) (n + 48) (n + 55)
