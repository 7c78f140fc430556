-- Panel maps (docs/RULES.md, sections 5 and 9). Assumes nothing.
use Rattle.std.specs.Prelude.{ℕ, Bool, false, not, List, [], ◌∷◌, eqb}
use Rattle.basics.specs.Choice.{both, either}

-- A number is in a list.
unfoldable pub is_in : ℕ → List ℕ → Bool
is_in k [] = false
is_in k (x ∷ xs) = either (eqb x k) (is_in k xs)

-- Some key stands twice; 0, which is no key, may.
unfoldable pub has_double : List ℕ → Bool
has_double [] = false
has_double (k ∷ ks) = either (both (not (eqb k 0)) (is_in k ks)) (has_double ks)
