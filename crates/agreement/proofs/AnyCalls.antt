-- Any calls, one after the other: what is true of the dock stays true, and a terminal that nothing disturbs goes on following. Assumes
-- nothing.
use mathlib.Core.Path.{◌≡◌, refl, sym, ap, ◌∙◌}
use mathlib.Core.Logic.{inl}
use mathlib.Core.Bool.{Bool, true, false, not}
use mathlib.Core.List.{List, [], ◌∷◌}
use native.Mathlib.Omega.{arith}
use borrow.Author.Tests.{not-true}
use Prim.Native.Nat.{ℕ}
use lib.Dec.{eqb}
use lib.ListN.{length}
use Rattle.std.proofs.lemmas.Grind.{common_steps}
use Rattle.basics.specs.Choice.{pick, both, either}
use Rattle.basics.specs.Lists.{all_up_to}
use Rattle.basics.proofs.Flags.{left_of_both, right_of_both}
use Rattle.dock.proofs.InRange.{scan_in_range, read_in_range, swap_in_range, frame_in_range}
use Rattle.contacts.specs.Counts.{counted_of}
use Rattle.dock.specs.Scan.{listening, is_counted}
use Rattle.dock.specs.Swap.{swap_of}
use Rattle.history.specs.Scans.{counted_all}
use Rattle.keying.specs.Repeat.{ticked}
use Rattle.maps.specs.Maps.{is_in, has_double}
use Rattle.queue.specs.Queues.{queue_of}
use Rattle.record.specs.declared.Dock.{Dock}
use Rattle.record.specs.declared.Mode.{Mode}
use Rattle.record.specs.Power.{count_up, plain_map, fresh_with, power_on}
use Rattle.record.specs.Views.{contacts_of, keys_of}
use Rattle.range.specs.Range.{in_range}
use Rattle.range.proofs.PowerOn.{power_on_in_range}
use Rattle.range.proofs.Ranges.{in_range_keys, in_range_mode}
use Rattle.keying.proofs.Good.{ticked_good}
use Rattle.dock.specs.Calls.{Call, Scan, Swap, Frame, Read, as_bytes}
use Rattle.runs.specs.Clearing.{is_clearing_call}
use Rattle.runs.specs.Onlookers.{onlooker, at_power_on, is_counted_by, saw_scan, is_map, saw_swap}
use Rattle.runs.specs.Machines.{ours, finds_no_room, key_left}
use Rattle.runs.specs.Worlds.{World, woken, next, after_calls}
use Rattle.runs.specs.Runs.{beginning, turning_bytes, overruns, overruns_in, undisturbed}
use Rattle.basics.proofs.Cases.{neither_first, never}
use Rattle.telling.proofs.Held.{none_agree, contact_open}
use Rattle.basics.proofs.Zeros.{zeros_at}
use Rattle.agreement.proofs.Rules.{phantom_same}
use Rattle.agreement.proofs.Left.{none_lowest}
use Rattle.agreement.proofs.Overrunning.{changes_overrun, scan_overruns, turns_exactly}
use Rattle.agreement.proofs.Ready.{IsReady, Settled, shut_settled}
use Rattle.agreement.proofs.SaidHeld.{none_held, no_scan_says}
use Rattle.agreement.proofs.Following.{Follows}
use Rattle.agreement.proofs.Scanned.{scan_settled, scan_follows}
use Rattle.agreement.proofs.Swapped.{swap_settled, swap_follows}
use Rattle.agreement.proofs.Framed.{frame_settled, frame_follows}
use Rattle.agreement.proofs.Taken.{read_settled, read_follows}
use Rattle.agreement.proofs.Staying.{scan_stays, swap_stays, read_stays}
use Rattle.agreement.proofs.Knowing.{Knows, scan_knows, swap_knows, frame_knows, read_knows, frame_set}

-- The dock is in its range and settled, and the onlooker knows what is so.
pub record Sound (w : World) : Type 0 where
  pub range : in_range w.dock ≡ true
  pub settled : Settled w.dock w.onlooker.scans
  pub knows : Knows w.dock w.onlooker

-- At power-on.
pub woken_sound : Sound (woken ours)
unfolding woken at_power_on power_on fresh_with plain_map count_up all_up_to is_in has_double queue_of counted_all
woken_sound =
    record {
      range = power_on_in_range;
      settled = shut_settled power_on [] refl (record {
        long = refl;
        entries = refl;
        single = refl;
        places = record { flags = refl; bytes = refl };
        outside = λ key h. zeros_at 144 key;
        repeats = inl refl;
        seen = refl;
        agree = λ shut. none_agree plain_map _ _ (zeros_at 144) (λ position h. contact_open 18 position);
        anew = λ begun. never false begun refl;
      });
      knows = (refl, refl, refl, refl);
    }

-- Where a terminal begins.
pub begun_sound : (w : World) → Sound w → Sound (beginning w)
begun_sound w s = grind arith

-- Where no handover is open and no scan has been counted no key is held, so none is left.
none_left : (d : Dock) (scans : List (List ℕ)) → IsReady d scans → d.rest.handover ≡ false → scans ≡ [] → key_left d ≡ false
unfolding key_left finds_no_room
none_left d scans r shut none = grind (arith, none_lowest, none_held, no_scan_says)

-- A handover is open exactly if a key is left and no scan has been counted since the swap.
still_open : (d : Dock) (scans : List (List ℕ)) → Settled d scans → d.rest.handover ≡ both (eqb (length scans) 0) (key_left d)
still_open d scans s = grind (arith, common_steps, none_left)

-- The dock counts the scans that the onlooker counts.
pub same_count : (w : World) → Sound w → (scan : List ℕ)
    → both (eqb (length (as_bytes scan)) 18) (is_counted w.dock (as_bytes scan)) ≡ is_counted_by w.onlooker (key_left w.dock) (as_bytes scan)
unfolding is_counted listening is_counted_by
same_count w s scan =
    let k = s.knows in
    alike (eqb (length (as_bytes scan)) 18) k.1 k.2 (still_open w.dock w.onlooker.scans s.settled) (phantom_same scan)
  where
    alike : (whole : Bool) {scanning on : Bool} {waiting command : ℕ} {handover unfinished phantom looks : Bool}
        → scanning ≡ on → waiting ≡ command → handover ≡ unfinished → looks ≡ phantom
        → both whole (both (both scanning (both (eqb waiting 0) (not handover))) (not phantom))
        ≡ both whole (both (both on (both (eqb command 0) (not unfinished))) (not looks))
    alike whole e f g h = rw (e, f, g, h)

-- A scan overruns the queue, by its bytes, exactly if one of its sequences does not fit as the dock goes on.
pub same_overrun : (w : World) → Sound w → (scan : List ℕ)
    → overruns w (as_bytes scan) ≡ both (eqb (length (as_bytes scan)) 18) (scan_overruns w.dock (as_bytes scan))
unfolding overruns scan_overruns changes_overrun turning_bytes
same_overrun w s scan =
    let d = w.dock in
    let r = s.settled.ready in
    let keys = in_range_keys d s.range in
    let bytes = as_bytes scan in
    alike (eqb (length bytes) 18) (is_counted d bytes) (same_count w s scan)
    (turns_exactly d.rest.mode d.types d.map d.closed (counted_of (contacts_of d) bytes).closed
    (in_range_mode d s.range) r.entries 144 (ticked (keys_of d)) (ticked_good (keys_of d) keys) r.places.bytes)
  where
    alike : (whole counted : Bool) {by-him sent over : Bool} → both whole counted ≡ by-him → sent ≡ over
        → both by-him sent ≡ both whole (both counted over)
    alike true counted e f = rw (← e, f)
    alike false counted e f = rw (← e)

-- One call.
next_sound : (w : World) (call : Call) → Sound w → Sound (next ours w call)
unfolding next saw_scan saw_swap
next_sound w (Scan scan) s =
    record {
      range = scan_in_range w.dock (as_bytes scan) s.range;
      settled = rw (← same_count w s scan)
          (scan_settled w.dock w.onlooker.scans (as_bytes scan) s.range s.settled);
      knows = scan_knows w.dock w.onlooker s.knows s.range (key_left w.dock) (as_bytes scan);
    }
next_sound w (Swap map) s =
    record {
      range = swap_in_range w.dock map s.range;
      settled = go (is_map map) (swap_settled w.dock w.onlooker.scans s.settled map s.range);
      knows = swap_knows w.dock w.onlooker s.knows s.range map;
    }
  where
    go : (b : Bool) → Settled (swap_of w.dock map).dock (pick b [] w.onlooker.scans)
        → Settled (swap_of w.dock map).dock (pick b (onlooker map w.onlooker.scanning w.onlooker.waiting w.onlooker.set []) w.onlooker).scans
    go true t = t
    go false t = t
next_sound w (Frame number) s =
    record {
      range = frame_in_range w.dock number s.range;
      settled = frame_settled w.dock w.onlooker number s.range s.settled;
      knows = frame_knows w.dock w.onlooker s.knows s.range number;
    }
next_sound w Read s =
    record {
      range = read_in_range w.dock s.range;
      settled = read_settled w.dock w.onlooker.scans s.settled;
      knows = read_knows w.dock w.onlooker s.knows s.range;
    }

-- The terminal follows, and reads by the set that the dock sends in.
pub record InStep (w : World) : Type 0 where
  pub follows : Follows w.dock w.terminal
  pub same : w.dock.rest.mode.set ≡ w.set

next_in_step : (w : World) (call : Call) → Sound w → either (is_clearing_call call) (overruns_in w call) ≡ false → InStep w → InStep (next ours w call)
unfolding next
next_in_step w (Scan scan) s calm f =
    record {
      follows = scan_follows w.terminal w.dock w.onlooker.scans (as_bytes scan) s.settled f.follows s.range (sym (same_overrun w s scan) ∙ calm);
      same = ap (λ (m : Mode). m.set) (scan_stays w.dock (as_bytes scan)).3 ∙ f.same;
    }
next_in_step w (Swap map) s calm f =
    record {
      follows = swap_follows w.dock w.terminal map f.follows;
      same = ap (λ (m : Mode). m.set) (swap_stays w.dock map s.range).3 ∙ f.same;
    }
next_in_step w (Frame number) s calm f =
    let mild = neither_first (is_clearing_call (Frame number)) false calm in
    record {
      follows = frame_follows w.dock w.terminal number s.range mild f.follows;
      same = frame_set w.dock number s.range mild f.follows.firm ∙ f.same;
    }
next_in_step w Read s calm f =
    record {
      follows = rw (← f.same) (read_follows w.dock w.onlooker.scans w.terminal s.settled f.follows);
      same = ap (λ (m : Mode). m.set) (read_stays w.dock).3 ∙ f.same;
    }

-- Any calls.
pub any_sound : (calls : List Call) (w : World) → Sound w → Sound (after_calls ours w calls)
unfolding after_calls
any_sound [] w s = s
any_sound (call ∷ calls) w s = any_sound calls (next ours w call) (next_sound w call s)

pub any_in_step : (calls : List Call) (w : World) → Sound w → undisturbed ours w calls ≡ true → InStep w → InStep (after_calls ours w calls)
unfolding after_calls undisturbed
any_in_step [] w s calm f = f
any_in_step (call ∷ calls) w s calm f =
    let disturbs = either (is_clearing_call call) (overruns_in w call) in
    let later = undisturbed ours (next ours w call) calls in
    any_in_step calls (next ours w call) (next_sound w call s) (right_of_both (not disturbs) later calm)
    (next_in_step w call s (not-true disturbs (left_of_both (not disturbs) later calm)) f)
