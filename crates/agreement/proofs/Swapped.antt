-- A swap leaves a settled dock settled, with no scan counted since, and the terminal goes on following. Assumes nothing.
use native.Mathlib.Omega.{arith}
use mathlib.Core.Path.{◌≡◌, refl}
use mathlib.Core.Bool.{Bool, true, false, not}
use mathlib.Core.List.{List, []}
use Prim.Native.Nat.{ℕ}
use borrow.Author.Tests.{eqb-true}
use lib.Dec.{eqb}
use lib.ListN.{length}
use Rattle.basics.specs.Choice.{pick, both}
use Rattle.basics.specs.Lists.{all_up_to}
use Rattle.keys.specs.Keys.{last_key}
use Rattle.std.specs.Prelude.{Ok, Err}
use Rattle.dock.specs.declared.Refusal.TheVariants.{MapLength, MapEntry, MapDouble}
use Rattle.dock.specs.Answers.{answered}
use Rattle.dock.specs.Swap.{opened, remapped, swapped, swap_of}
use Rattle.history.specs.Scans.{counted_all}
use Rattle.maps.specs.Maps.{has_double}
use Rattle.record.specs.declared.Dock.{Dock}
use Rattle.range.specs.Range.{in_range}
use Rattle.runs.specs.Onlookers.{is_map}
use Rattle.terminal.specs.Terminals.{Terminal}
use Rattle.agreement.proofs.Following.{Follows, closing_follows}
use Rattle.agreement.proofs.Ready.{IsReady, Settled, closing_settled}
use Rattle.dock.proofs.Calls.{swap_keeps}

module _ (d : Dock) (scans : List (List ℕ)) (s : Settled d scans) (map : List ℕ) where
  -- The map is replaced, and if no handover is open, one is opened and the contact history dropped.
  module _ (long : length map ≡ 144) (entries : all_up_to last_key map ≡ true) (single : has_double map ≡ false) where
    remapped_ready : IsReady (remapped d map) []
    unfolding remapped opened counted_all
    remapped_ready = grind arith

  -- The call, refused or not.
  pub swap_settled : in_range d ≡ true → Settled (swap_of d map).dock (pick (is_map map) [] scans)
  unfolding swap_of swapped is_map
  swap_settled range = rw range (go (eqb (length map) 144) refl (all_up_to last_key map) refl (has_double map) refl)
    where
      go : (long : Bool) → eqb (length map) 144 ≡ long → (entries : Bool) → all_up_to last_key map ≡ entries → (double : Bool) → has_double map ≡ double
          → Settled
          (pick long (pick entries (pick double (answered (Err MapDouble) d) (answered (Ok tt) (swapped d map))) (answered (Err MapEntry) d)) (answered (Err MapLength) d)).dock
          (pick (both long (both entries (not double))) [] scans)
      go true l true e false h = closing_settled (remapped d map) [] (remapped_ready (eqb-true (length map) 144 l) e h)
      go true l true e true h = s
      go true l false e double h = s
      go false l entries e double h = s

-- The terminal: a swap by itself queues nothing and releases no key.
module _ (d : Dock) (t : Terminal) (map : List ℕ) (f : Follows d t) where
  remapped_follows : Follows (remapped d map) t
  unfolding remapped opened
  remapped_follows = grind arith

  pub swap_follows : Follows (swap_of d map).dock t
  swap_follows = swap_keeps (λ (e : Dock). Follows e t) (λ e g. closing_follows e t g) d f map (λ long good. remapped_follows)
