-- A scan that shows what counts, while no row of scans is under way, changes nothing. Assumes nothing.
use mathlib.Core.Path.{◌≡◌, refl}
use mathlib.Core.Bool.{Bool, true}
use mathlib.Core.List.{List}
use Prim.Native.Nat.{ℕ, zero, suc, ◌<◌}
use native.Mathlib.Omega.{arith}
use lib.ListN.{get_or}
use Rattle.contacts.specs.Counts.{at_rest, counted_of}
use Rattle.contacts.proofs.Passes.{rest_stays}
use Rattle.keying.specs.Changes.{turned, turns_to}
use Rattle.record.specs.declared.Mode.{Mode}
use Rattle.record.specs.Views.{Keys, contacts_of}
use Rattle.record.specs.declared.Dock.{Dock}
use Rattle.dock.specs.Scan.{counting, changed}

-- No contact turned, so no key moves.
nothing_turns : (n : ℕ) (m : Mode) (types map was : List ℕ) (k : Keys) → turns_to n m types map was was k ≡ k
unfolding turns_to turned
nothing_turns zero m types map was k = refl
nothing_turns (suc p) m types map was k = grind (arith, nothing_turns p m types map was k)

-- Contacts that stay leave the dock as it is, phantom or not.
changed_still : (d : Dock) (scan : List ℕ) → counted_of (contacts_of d) scan ≡ contacts_of d → changed d scan ≡ d
unfolding changed counting
changed_still d scan e = grind (arith, nothing_turns)

pub rest_changes_nothing : (d : Dock) (scan : List ℕ) (b : Bool) → ((i : ℕ) → get_or scan i 0 < 256) → b ≡ at_rest (contacts_of d) scan → b ≡ true
    → d ≡ changed d scan
rest_changes_nothing d scan b h e t = grind (arith, changed_still, rest_stays)
