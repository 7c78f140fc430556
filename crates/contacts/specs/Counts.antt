-- Contact history (docs/RULES.md, section 5): which contacts count as closed, and how many counted scans in a row showed each
-- of them otherwise. Assumes nothing.
use Rattle.std.specs.Prelude.{ℕ, zero, suc, ◌+◌, ◌*◌, Bool, List, ltb, eqb, get_or, set, replicate}
use Rattle.basics.specs.Choice.{pick, both}
use Rattle.basics.specs.Lists.{map_from, all_up_to, same}
use Rattle.contacts.specs.Scans.{contact_in, contact}

-- The contacts as they count, laid out as a scan, and the counted scans in a row that showed each otherwise; what is over 2 counts as 2.
pub record Contacts : Type 0 where
  pub closed : List ℕ
  pub counts : List ℕ

-- Contacts by their two parts.
abbrev pub contacts : List ℕ → List ℕ → Contacts
contacts closed counts = record { closed = closed; counts = counts }

-- Contacts of which nothing has been seen.
abbrev pub unseen : Contacts
unseen = contacts (replicate 18 0) (replicate 144 0)

-- A contact that counts as `closed` and is `seen`, each 1 or 0, after `count` scans in a row that showed it otherwise:
-- the third such scan turns it, and any other scan ends the row. Its count,
abbrev pub next_count : ℕ → ℕ → ℕ → ℕ
next_count seen closed count = pick (eqb seen closed) 0 (pick (ltb count 2) (count + 1) 0)

-- and what it counts as.
abbrev pub next_closed : ℕ → ℕ → ℕ → ℕ
next_closed seen closed count = pick (eqb seen closed) closed (pick (ltb count 2) closed seen)

-- Eight contacts in a byte, row 0 lowest.
abbrev pub packed : (ℕ → ℕ) → ℕ
packed at = at 0 + 2 * at 1 + 4 * at 2 + 8 * at 3 + 16 * at 4 + 32 * at 5 + 64 * at 6 + 128 * at 7

-- What a counted scan makes of the count at a position,
abbrev pub count_at : Contacts → List ℕ → ℕ → ℕ
count_at k scan position = next_count (contact scan position) (contact k.closed position) (get_or k.counts position 0)

-- and of the contact there.
abbrev pub closed_at : Contacts → List ℕ → ℕ → ℕ
closed_at k scan position = next_closed (contact scan position) (contact k.closed position) (get_or k.counts position 0)

-- The contacts after a counted scan.
unfoldable pub counted_of : Contacts → List ℕ → Contacts
counted_of k scan =
    record {
      closed = map_from (λ column byte. packed (λ row. closed_at k scan (8 * column + row))) 0 k.closed;
      counts = map_from (λ position count. count_at k scan position) 0 k.counts;
    }

-- The scan shows what counts, and no row of scans is under way.
unfoldable pub at_rest : Contacts → List ℕ → Bool
at_rest k scan = both (same scan k.closed) (all_up_to 0 k.counts)

-- A list with n entries from a place on made anew, each by its number among them and what it was.
unfoldable pub renewed : (ℕ → ℕ → ℕ) → ℕ → ℕ → List ℕ → List ℕ
renewed new first zero list = list
renewed new first (suc n) list = set (renewed new first n list) (first + n) (new n (get_or list (first + n) 0))

-- What a counted scan makes of a column that is `seen` and counts as `closed`: its eight counts,
abbrev pub column_counts : ℕ → ℕ → ℕ → List ℕ → List ℕ
column_counts column seen closed counts =
    renewed (λ row count. next_count (contact_in seen row) (contact_in closed row) count) (8 * column) 8 counts

-- and its eight contacts.
abbrev pub column_closed : ℕ → ℕ → ℕ → List ℕ → ℕ
column_closed column seen closed counts =
    packed (λ row. next_closed (contact_in seen row) (contact_in closed row) (get_or counts (8 * column + row) 0))
