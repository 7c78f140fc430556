-- Calls from C are calls: from power-on the bytes stay a record, the one of the dock that the calls leave, and each call gives the number
-- that it gives of that dock. So what holds of calls holds of calls from C. Assumes nothing.
use mathlib.Core.Path.{◌≡◌, refl, ap, ◌∙◌}
use mathlib.Core.Bool.{true}
use mathlib.Core.List.{List, [], ◌∷◌}
use Prim.Native.Nat.{ℕ}
use Rattle.dock.specs.Calls.{Call, Scan, Swap, Frame, Read}
use Rattle.dock.proofs.Arrays.{power_on_sized}
use Rattle.layout.specs.Layout.{record_in, is_record, bytes_of}
use Rattle.layout.proofs.RoundTrip.{record_back}
use Rattle.lent.specs.Lent.{done, number_for, bytes_after}
use Rattle.lent.proofs.Lending.{record_after, means_after, power_is_record}
use Rattle.record.specs.declared.Dock.{Dock}
use Rattle.record.specs.Power.{power_on}
use Rattle.runs.specs.Demand.{end_of}
use Rattle.runs.specs.Machines.{ours}
use Rattle.runs.specs.Worlds.{World, woken, next, after_calls}
use Rattle.runs.specs.Runs.{beginning}
use Rattle.session.specs.FromC.{passed, lent_after}

-- Bytes that are the record of a world's dock.
pub record Holds (l : List ℕ) (w : World) : Type 0 where
  pub good : is_record l ≡ true
  pub same : record_in l ≡ w.dock

-- One call,
next_done : (w : World) (call : Call) → (done (passed call) w.dock).dock ≡ (next ours w call).dock
unfolding next
next_done w (Scan scan) = refl
next_done w (Swap map) = refl
next_done w (Frame number) = refl
next_done w Read = refl

next_holds : (l : List ℕ) (w : World) (call : Call) → Holds l w → Holds (bytes_after (passed call) l) (next ours w call)
next_holds l w call h =
    record {
      good = record_after (passed call) l h.good;
      same = means_after (passed call) l h.good ∙ ap (λ (d : Dock). (done (passed call) d).dock) h.same ∙ next_done w call;
    }

-- any calls,
any_holds : (calls : List Call) (l : List ℕ) (w : World) → Holds l w → Holds (lent_after l calls) (after_calls ours w calls)
unfolding lent_after after_calls
any_holds [] l w h = h
any_holds (call ∷ calls) l w h = any_holds calls (bytes_after (passed call) l) (next ours w call) (next_holds l w call h)

-- and any calls since power-on.
woken_holds : Holds (bytes_of power_on) (woken ours)
unfolding woken
woken_holds = record { good = power_is_record; same = record_back power_on power_on_sized }

pub lent_holds : (calls : List Call) → Holds (lent_after (bytes_of power_on) calls) (after_calls ours (woken ours) calls)
lent_holds calls = any_holds calls (bytes_of power_on) (woken ours) woken_holds

-- The dock in the bytes is that of the third demand's run,
pub lent_dock : (earlier calls : List Call)
    → record_in (lent_after (lent_after (bytes_of power_on) earlier) calls) ≡ (end_of ours earlier calls).dock
unfolding end_of
lent_dock earlier calls =
    let before = after_calls ours (woken ours) earlier in
    let h = lent_holds earlier in
    (any_holds calls (lent_after (bytes_of power_on) earlier) (beginning before) (record { good = h.good; same = h.same })).same

-- and what a call from C gives is what it gives of that dock.
pub lent_numbers : (earlier : List Call) (call : Call)
    → number_for (passed call) (lent_after (bytes_of power_on) earlier) ≡ (done (passed call) (after_calls ours (woken ours) earlier).dock).number
unfolding number_for
lent_numbers earlier call =
    let h = lent_holds earlier in
    rw h.good (ap (λ (d : Dock). (done (passed call) d).number) h.same)
