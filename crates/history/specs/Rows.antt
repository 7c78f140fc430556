-- When scans say that a contact is closed (docs/RULES.md, section 5). A list says what they showed of it, 1 closed or 0 open, in the
-- order in which they came. Assumes nothing.
use Rattle.std.specs.Prelude.{ℕ, Bool, false, not, List, [], ◌∷◌, eqb, drop}
use Rattle.basics.specs.Choice.{both, either}

-- The first three all show this.
unfoldable pub three_first : ℕ → List ℕ → Bool
three_first this [] = false
three_first this (a ∷ []) = false
three_first this (a ∷ b ∷ []) = false
three_first this (a ∷ b ∷ c ∷ rest) = both (eqb a this) (both (eqb b this) (eqb c this))

-- Three in a row show this somewhere.
unfoldable pub three_in_a_row : ℕ → List ℕ → Bool
three_in_a_row this [] = false
three_in_a_row this (x ∷ rest) = either (three_first this (x ∷ rest)) (three_in_a_row this rest)

-- Three in a row showed it closed, and no three in a row showed it open after that.
unfoldable pub says_closed : List ℕ → Bool
says_closed [] = false
says_closed (x ∷ rest) =
    either (both (three_first 1 (x ∷ rest)) (not (three_in_a_row 0 (drop 3 (x ∷ rest))))) (says_closed rest)
