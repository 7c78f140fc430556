-- Words about lists that several parts share. Assumes nothing.
use Rattle.std.specs.Prelude.{ℕ, suc, Bool, true, false, List, [], ◌∷◌, eqb, leb}
use Rattle.basics.specs.Choice.{both}

-- Each entry with its place, counted from i, put through f.
abbrev pub map_from : {A B : Type 0} → (ℕ → A → B) → ℕ → List A → List B
map_from f i [] = []
map_from f i (x ∷ xs) = f i x ∷ map_from f (suc i) xs

-- No entry is over a limit.
unfoldable pub all_up_to : ℕ → List ℕ → Bool
all_up_to limit [] = true
all_up_to limit (x ∷ xs) = both (leb x limit) (all_up_to limit xs)

-- Two lists are the same, entry by entry.
unfoldable pub same : List ℕ → List ℕ → Bool
same [] [] = true
same [] (y ∷ ys) = false
same (x ∷ xs) [] = false
same (x ∷ xs) (y ∷ ys) = both (eqb x y) (same xs ys)
