-- The dock's counters say of each contact what the counted scans say of it. Assumes nothing.
use mathlib.Core.Path.{◌≡◌, refl, sym, ap₂, ◌∙◌}
use mathlib.Core.List.{List, [], ◌∷◌, ◌++◌}
use Prim.Native.Nat.{ℕ, ◌≤◌, ◌<◌}
use native.Mathlib.Omega.{arith}
use lib.Dec.{eqb}
use lib.ListN.{length, get_or, get_or-replicate}
use Rattle.contacts.specs.Counts.{Contacts, unseen, next_count, counted_of}
use Rattle.contacts.specs.Scans.{contact}
use Rattle.contacts.proofs.Pointwise.{contact_small, next_count_small, closed_length, counts_length, closed_pointwise, counts_pointwise}
use Rattle.history.specs.Rows.{says_closed}
use Rattle.history.specs.Scans.{shown_at, counted_all}
use Rattle.history.proofs.Rows.{ends_closed, ends_next, ends_now}

-- One scan more.
pub counted_again : (k : Contacts) (scans : List (List ℕ)) (scan : List ℕ) → counted_all k (scans ++ (scan ∷ [])) ≡ counted_of (counted_all k scans) scan
unfolding counted_all
counted_again k [] scan = refl
counted_again k (first ∷ scans) scan = counted_again (counted_of k first) scans scan

-- From any contacts on: each ends as the scans in its count and those to come say.
ends : (k : Contacts) (scans : List (List ℕ)) → length k.closed ≡ 18 → length k.counts ≡ 144
    → (position : ℕ) → position < 144 → get_or k.counts position 0 ≤ 2
    → eqb (contact (counted_all k scans).closed position) 1
    ≡ ends_closed (contact k.closed position) (get_or k.counts position 0) (shown_at position scans)
unfolding counted_all shown_at
ends k [] l m position h n = grind (arith, ends_now, contact_small)
ends k (scan ∷ scans) l m position h n =
    let seen = contact scan position in
    let closed = contact k.closed position in
    let count = get_or k.counts position 0 in
    let count_next : get_or (counted_of k scan).counts position 0 ≡ next_count seen closed count = counts_pointwise k scan m position h in
    ends (counted_of k scan) scans (closed_length k scan ∙ l) (counts_length k scan ∙ m) position h
    (rw count_next (next_count_small seen closed count))
    ∙ ap₂ (λ (c d : ℕ). ends_closed c d (shown_at position scans)) (closed_pointwise k scan l position h) count_next
    ∙ sym (ends_next seen closed count (contact_small scan position) (contact_small k.closed position) n (shown_at position scans))

-- Nothing is closed and nothing counted in contacts of which nothing has been seen.
unseen_open : (position : ℕ) → position < 144 → contact unseen.closed position ≡ 0
unfolding contact
unseen_open position h = grind arith

unseen_count : (position : ℕ) → position < 144 → get_or unseen.counts position 0 ≡ 0
unseen_count position h = get_or-replicate 144 position 0 0 h

-- From unseen contacts on: each counts as what all the scans say.
pub counters_agree : (scans : List (List ℕ)) (position : ℕ) → position < 144
    → eqb (contact (counted_all unseen scans).closed position) 1 ≡ says_closed (shown_at position scans)
unfolding ends_closed
counters_agree scans position h =
    ends unseen scans refl refl position h (rw (unseen_count position h) (omega arith))
    ∙ ap₂ (λ (c d : ℕ). ends_closed c d (shown_at position scans)) (unseen_open position h) (unseen_count position h)
