-- What a list of counted scans, in the order in which they came, says of contacts and of keys (docs/RULES.md, section 5). Assumes
-- nothing.
use Rattle.std.specs.Prelude.{ℕ, suc, Bool, false, List, [], ◌∷◌, map, eqb}
use Rattle.basics.specs.Choice.{both, either}
use Rattle.contacts.specs.Counts.{Contacts, counted_of}
use Rattle.contacts.specs.Scans.{contact}
use Rattle.history.specs.Rows.{says_closed}

-- What the scans showed of the contact at a position.
unfoldable pub shown_at : ℕ → List (List ℕ) → List ℕ
shown_at position scans = map (λ (scan : List ℕ). contact scan position) scans

-- The scans say that a key is held: its contact, by this map of the positions from `position` on, is closed.
unfoldable pub says_held_from : ℕ → List ℕ → List (List ℕ) → ℕ → Bool
says_held_from position [] scans key = false
says_held_from position (k ∷ ks) scans key =
    either (both (eqb k key) (says_closed (shown_at position scans))) (says_held_from (suc position) ks scans key)

-- The same by a whole map.
unfoldable pub says_held : List ℕ → List (List ℕ) → ℕ → Bool
says_held map scans key = says_held_from 0 map scans key

-- What the dock's counters make of the scans, one after the other.
unfoldable pub counted_all : Contacts → List (List ℕ) → Contacts
counted_all k [] = k
counted_all k (scan ∷ scans) = counted_all (counted_of k scan) scans
