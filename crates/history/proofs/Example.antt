-- What the rule of three in a row says of a few scans, computed, so that a reader can hold it against section 5 of docs/RULES.md.
-- Assumes nothing.
use mathlib.Core.Path.{◌≡◌, refl}
use mathlib.Core.Bool.{true, false}
use mathlib.Core.List.{[], ◌∷◌}
use Rattle.history.specs.Rows.{three_first, three_in_a_row, says_closed}

two_closed_lem : says_closed (1 ∷ 1 ∷ 0 ∷ []) ≡ false
unfolding says_closed three_in_a_row three_first
two_closed_lem = refl

three_closed : says_closed (1 ∷ 1 ∷ 1 ∷ []) ≡ true
unfolding says_closed three_in_a_row three_first
three_closed = refl

two_open_twice : says_closed (1 ∷ 1 ∷ 1 ∷ 0 ∷ 0 ∷ 1 ∷ 0 ∷ 0 ∷ []) ≡ true
unfolding says_closed three_in_a_row three_first
two_open_twice = refl

three_open : says_closed (1 ∷ 1 ∷ 1 ∷ 0 ∷ 0 ∷ 0 ∷ []) ≡ false
unfolding says_closed three_in_a_row three_first
three_open = refl
