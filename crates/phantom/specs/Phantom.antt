-- The phantom test (docs/RULES.md, section 5). Assumes nothing.
use Rattle.std.specs.Prelude.{ℕ, zero, suc, ◌+◌, Bool, false, List, [], ◌∷◌, bit_and, count_ones, nat_le, slice_index}
use Rattle.basics.specs.Choice.{either}

-- Two or more rows of a column are closed.
abbrev pub two_closed : ℕ → Bool
two_closed rows = nat_le 2 (count_ones rows)

-- Two columns have two or more closed rows in common.
abbrev pub shares : ℕ → ℕ → Bool
shares x y = two_closed (bit_and x y)

-- A column shares with one of these.
unfoldable pub shares_any : ℕ → List ℕ → Bool
shares_any x [] = false
shares_any x (y ∷ ys) = either (shares x y) (shares_any x ys)

-- A scan is phantom if two different columns share.
unfoldable pub is_phantom : List ℕ → Bool
is_phantom [] = false
is_phantom (x ∷ xs) = either (shares_any x xs) (is_phantom xs)

-- One of these columns has two or more closed rows.
unfoldable pub any_two_closed : List ℕ → Bool
any_two_closed [] = false
any_two_closed (x ∷ xs) = either (two_closed x) (any_two_closed xs)

-- One of the first n columns shares with the one at a distance behind it.
unfoldable pub shares_at : ℕ → ℕ → List ℕ → Bool
shares_at zero distance columns = false
shares_at (suc n) distance columns = either (shares_at n distance columns) (shares (slice_index columns n) (slice_index columns (n + distance)))
