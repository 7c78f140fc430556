-- A scan leaves a settled dock settled, and unless it overruns the queue the terminal goes on following. Assumes nothing.
use mathlib.Core.Path.{◌≡◌, refl, sym, ap, ◌∙◌}
use mathlib.Core.Bool.{Bool, true, false, not}
use mathlib.Core.List.{List, [], ◌∷◌, ◌++◌}
use Prim.Native.Nat.{ℕ}
use native.Mathlib.Omega.{arith}
use lib.Dec.{eqb}
use lib.ListN.{length}
use Rattle.std.proofs.Common.{tests}
use Rattle.basics.specs.Choice.{pick, both}
use Rattle.basics.proofs.Cases.{never}
use Rattle.contacts.specs.Counts.{Contacts, unseen, counted_of}
use Rattle.phantom.specs.Phantom.{is_phantom}
use Rattle.dock.specs.Closing.{closing}
use Rattle.dock.specs.Scan.{listening, is_counted, counting, changed, repeating, heard_scan, scanned, scan_of}
use Rattle.history.proofs.Counters.{counted_again}
use Rattle.keying.specs.Changes.{turns_to}
use Rattle.keying.specs.Repeat.{ticked}
use Rattle.keying.proofs.Places.{turns_places, repeated_places}
use Rattle.record.specs.Views.{contacts_of, keys_of, Keys}
use Rattle.record.specs.Parts.{with_keys}
use Rattle.record.specs.declared.Dock.{Dock}
use Rattle.range.specs.Range.{in_range}
use Rattle.telling.proofs.Held.{turns_agree}
use Rattle.telling.proofs.Repeating.{turns_repeat, turns_outside, repeated_repeats, repeated_held}
use Rattle.telling.proofs.Told.{turns_told, repeated_told}
use Rattle.terminal.specs.Terminals.{Terminal}
use Rattle.agreement.proofs.Overrunning.{changes_overrun, scan_overruns}
use Rattle.agreement.proofs.Following.{Follows, none_wait, closing_follows}
use Rattle.agreement.proofs.Ready.{Ready, IsReady, Settled, at_once, shut_settled, closing_settled}

-- Scans are listened to only while no handover is open.
listening_shut : (d : Dock) → listening d ≡ true → d.rest.handover ≡ false
unfolding listening
listening_shut d h = grind arith

module _ (d : Dock) (scans : List (List ℕ)) (shut : d.rest.handover ≡ false) where
  -- A tick.
  ticked_ready : IsReady d scans → Ready d.map (contacts_of d) (ticked (keys_of d)) d.rest.handover scans
  ticked_ready r = grind arith

  -- The changes of a counted scan.
  module _ (scan : List ℕ) (k : Keys) where
    turned_ready : Ready d.map (contacts_of d) k d.rest.handover scans
        → Ready d.map (counted_of (contacts_of d) scan)
        (turns_to 144 d.rest.mode d.types d.map d.closed (counted_of (contacts_of d) scan).closed k)
        d.rest.handover (scans ++ (scan ∷ []))
    turned_ready r =
        let was = d.closed in
        let is = (counted_of (contacts_of d) scan).closed in
        record {
          long = r.long;
          entries = r.entries;
          single = r.single;
          places = turns_places d.rest.mode d.types d.map r.entries 144 was is k r.places;
          outside = turns_outside d.rest.mode d.types d.map r.entries 144 was is k r.outside;
          repeats = turns_repeat d.rest.mode d.types d.map r.entries 144 was is k r.places.flags r.repeats;
          seen = ap (λ (c : Contacts). counted_of c scan) r.seen ∙ sym (counted_again unseen scans scan);
          agree = λ s. turns_agree d.rest.mode d.types d.map was is k r.places.flags r.entries
              (at_once d.map r.long r.single) (r.agree s);
          anew = λ opened. never d.rest.handover opened shut;
        }

-- The repeat.
repeated_ready : (d : Dock) (scans : List (List ℕ)) → IsReady d scans → IsReady (repeating d) scans
unfolding repeating
repeated_ready d scans r = grind (arith, repeated_held, repeated_places, repeated_repeats)

-- A scan that is listened to.
heard_settled : (d : Dock) (scans : List (List ℕ)) (scan : List ℕ) → d.rest.handover ≡ false → IsReady d scans
    → Settled (heard_scan d scan) (pick (not (is_phantom scan)) (scans ++ (scan ∷ [])) scans)
unfolding heard_scan changed counting repeating
heard_settled d scans scan shut r = go (is_phantom scan)
  where
    still : Dock
    still = with_keys d (ticked (keys_of d))

    longer : List (List ℕ)
    longer = scans ++ (scan ∷ [])

    ready : IsReady still scans
    ready = ticked_ready d scans shut r

    go : (phantom : Bool) → Settled (repeating (pick phantom still (counting still scan))) (pick (not phantom) longer scans)
    go true = shut_settled (repeating still) scans shut (repeated_ready still scans ready)
    go false =
        shut_settled (repeating (counting still scan)) longer shut
        (repeated_ready (counting still scan) longer (turned_ready d scans shut scan (ticked (keys_of d)) ready))

scanned_settled : (d : Dock) (scans : List (List ℕ)) (scan : List ℕ) → Settled d scans
    → Settled (scanned d scan) (pick (is_counted d scan) (scans ++ (scan ∷ [])) scans)
unfolding scanned is_counted
scanned_settled d scans scan s = go (listening d) refl
  where
    go : (hears : Bool) → listening d ≡ hears
        → Settled (pick hears (heard_scan d scan) (closing d)) (pick (both hears (not (is_phantom scan))) (scans ++ (scan ∷ [])) scans)
    go true e = heard_settled d scans scan (listening_shut d e) s.ready
    go false e = closing_settled d scans s.ready

-- The call, refused or not.
pub scan_settled : (d : Dock) (scans : List (List ℕ)) (scan : List ℕ) → in_range d ≡ true → Settled d scans
    → Settled (scan_of d scan).dock (pick (both (eqb (length scan) 18) (is_counted d scan)) (scans ++ (scan ∷ [])) scans)
unfolding scan_of
scan_settled d scans scan range s = grind (arith, scanned_settled)

-- The terminal: a tick, the changes of a counted scan, and the repeat.
module _ (t : Terminal) where
  ticked_follows : (d : Dock) → Follows d t → Follows (with_keys d (ticked (keys_of d))) t
  ticked_follows d f = grind arith

  repeated_follows : (d : Dock) (scans : List (List ℕ)) → IsReady d scans → Follows d t → Follows (repeating d) t
  unfolding repeating
  repeated_follows d scans r f = grind (arith, tests, repeated_told, none_wait)

  counting_follows : (d : Dock) (scans : List (List ℕ)) (scan : List ℕ) → IsReady d scans → changes_overrun d scan ≡ false → Follows d t
      → Follows (counting (with_keys d (ticked (keys_of d))) scan) t
  unfolding counting changes_overrun
  counting_follows d scans scan r room f = grind (arith, turns_told)

  module _ (d : Dock) (scans : List (List ℕ)) (scan : List ℕ) (s : Settled d scans) (f : Follows d t) where
    heard_follows : d.rest.handover ≡ false → both (not (is_phantom scan)) (changes_overrun d scan) ≡ false → Follows (heard_scan d scan) t
    unfolding heard_scan changed counting
    heard_follows shut = go (is_phantom scan)
      where
        still : Dock
        still = with_keys d (ticked (keys_of d))

        ready : IsReady still scans
        ready = ticked_ready d scans shut s.ready

        go : (phantom : Bool) → both (not phantom) (changes_overrun d scan) ≡ false → Follows (repeating (pick phantom still (counting still scan))) t
        go true room = repeated_follows still scans ready (ticked_follows d f)
        go false room =
            repeated_follows (counting still scan) (scans ++ (scan ∷ [])) (turned_ready d scans shut scan (ticked (keys_of d)) ready)
            (counting_follows d scans scan s.ready room f)

    scanned_follows : scan_overruns d scan ≡ false → Follows (scanned d scan) t
    unfolding scanned scan_overruns is_counted
    scanned_follows = go (listening d) refl
      where
        go : (hears : Bool) → listening d ≡ hears → both (both hears (not (is_phantom scan))) (changes_overrun d scan) ≡ false
            → Follows (pick hears (heard_scan d scan) (closing d)) t
        go true e room = heard_follows (listening_shut d e) room
        go false e room = closing_follows d t f

    -- The call, refused or not.
    pub scan_follows : in_range d ≡ true → both (eqb (length scan) 18) (scan_overruns d scan) ≡ false → Follows (scan_of d scan).dock t
    unfolding scan_of
    scan_follows range = grind (arith, scanned_follows)
