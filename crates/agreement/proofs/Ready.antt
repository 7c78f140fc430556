-- What is true of a dock and the scans it counted, whatever was called, and how every accepted call ends. Assumes nothing.
use mathlib.Core.Path.{◌≡◌, ap, ◌∙◌}
use mathlib.Core.Bool.{Bool, true, false}
use mathlib.Core.List.{List, []}
use Prim.Native.Nat.{ℕ, ◌≤◌, ◌<◌}
use native.Mathlib.Omega.{arith}
use lib.ListN.{length}
use Rattle.basics.specs.Lists.{all_up_to}
use Rattle.keys.specs.Keys.{last_key}
use Rattle.contacts.specs.Counts.{Contacts, unseen}
use Rattle.contacts.specs.Scans.{contact}
use Rattle.dock.specs.Closing.{with_handed, closing}
use Rattle.history.specs.Scans.{counted_all}
use Rattle.history.proofs.Held.{one_place}
use Rattle.keying.specs.Handover.{handed_over}
use Rattle.keying.proofs.Places.{Places, handed_places}
use Rattle.maps.specs.Maps.{has_double}
use Rattle.queue.specs.Queues.{waiting}
use Rattle.record.specs.Views.{Keys, contacts_of, keys_of}
use Rattle.record.specs.declared.Dock.{Dock}
use Rattle.telling.specs.Agreeing.{Agrees, EachOnce, NoneOutside, RepeatsHeld}
use Rattle.basics.proofs.Cases.{by_cases}
use Rattle.telling.proofs.Held.{none_agree, contact_open}
use Rattle.telling.proofs.Handing.{handed_outside, handed_all, handed_waits}
use Rattle.telling.proofs.Repeating.{handed_repeat}
use Rattle.runs.specs.Machines.{key_left}
use Rattle.agreement.proofs.Left.{handed_stuck}

-- The map is a map; the contacts are what the counted scans make of them; the held keys are those whose contacts are closed, unless a
-- handover is open, and then no scan has been counted since the swap.
pub record Ready (map : List ℕ) (contacts : Contacts) (keys : Keys) (handover : Bool) (scans : List (List ℕ)) : Type 0 where
  pub long : length map ≡ 144
  pub entries : all_up_to last_key map ≡ true
  pub single : has_double map ≡ false
  pub places : Places keys
  pub outside : NoneOutside keys.held
  pub repeats : RepeatsHeld keys
  pub seen : contacts ≡ counted_all unseen scans
  pub agree : handover ≡ false → Agrees map contacts.closed keys.held
  pub anew : handover ≡ true → scans ≡ []

abbrev pub IsReady : Dock → List (List ℕ) → Type 0
IsReady d scans = Ready d.map (contacts_of d) (keys_of d) d.rest.handover scans

-- After a call moreover: where a handover is open, more than half the queue waits, and a key is left that finds no room.
pub record Settled (d : Dock) (scans : List (List ℕ)) : Type 0 where
  pub ready : IsReady d scans
  pub waits : d.rest.handover ≡ true → 9 ≤ length (waiting d.rest.outgoing.queue)
  pub left : d.rest.handover ≡ true → key_left d ≡ true

pub at_once : (map : List ℕ) → length map ≡ 144 → has_double map ≡ false → EachOnce map
at_once map long single p q hp hq same some = grind (arith, one_place)

-- Contacts of which no scan says anything are open.
all_open : (contacts : Contacts) (scans : List (List ℕ)) → contacts ≡ counted_all unseen scans → scans ≡ []
    → (position : ℕ) → position < 144 → contact contacts.closed position ≡ 0
unfolding counted_all
all_open contacts scans seen none position h =
    ap (λ (k : Contacts). contact k.closed position) (seen ∙ ap (counted_all unseen) none) ∙ contact_open 18 position

-- With no handover open a dock that is ready is settled.
pub shut_settled : (d : Dock) (scans : List (List ℕ)) → d.rest.handover ≡ false → IsReady d scans → Settled d scans
shut_settled d scans shut r = grind arith

-- Every accepted call ends so that the dock is settled.
pub closing_settled : (d : Dock) (scans : List (List ℕ)) → IsReady d scans → Settled (closing d) scans
unfolding closing key_left
closing_settled d scans r =
    let h = handed_over (keys_of d) d.rest.mode d.types in
    by_cases (λ (e : Dock). Settled e scans) d.rest.handover (with_handed d h) d
    (λ opened. record {
      ready = record {
        long = r.long;
        entries = r.entries;
        single = r.single;
        places = handed_places d.rest.mode last_key 1 (keys_of d) d.types r.places;
        outside = handed_outside d.rest.mode d.types last_key 1 (keys_of d) r.outside;
        repeats = handed_repeat d.rest.mode last_key 1 (keys_of d) d.types r.repeats;
        seen = r.seen;
        agree = λ done. none_agree d.map d.closed h.keys.held
            (handed_all d.rest.mode d.types (keys_of d) r.outside done)
            (all_open (contacts_of d) scans r.seen (r.anew opened));
        anew = λ unfinished. r.anew opened;
      };
      waits = handed_waits d.rest.mode d.types last_key 1 (keys_of d);
      left = handed_stuck d.rest.mode d.types last_key 1 (keys_of d) (omega arith);
    })
    (λ shut. shut_settled d scans shut r)
