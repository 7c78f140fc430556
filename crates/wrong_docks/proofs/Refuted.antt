-- Each wrong dock breaks demand 3 by its run: its premises are met, and the terminal and the scans disagree. So demand 3 is false of every
-- one of them. Assumes nothing.
use mathlib.Core.Path.{◌≡◌, refl, sym, ap}
use mathlib.Core.List.{List, [], ◌∷◌, map}
use Rattle.basics.specs.Lists.{same}
use Rattle.keys.specs.Keys.{last_key}
use Rattle.history.specs.Scans.{says_held_from, says_held}
use Rattle.terminal.specs.Terminals.{is_down}
use Rattle.dock.specs.Calls.{Call}
use Rattle.runs.specs.Machines.{Machine, nothing_waits}
use Rattle.runs.specs.Worlds.{woken, after_calls, scans_say}
use Rattle.runs.specs.Runs.{may_begin, undisturbed, beginning}
use mathlib.Core.Bool.{Bool, true, false, not, false≢true}
use Prim.Native.Nat.{ℕ, zero, suc, ◌<◌}
use native.Mathlib.Nat.{le_of_suc-le-suc, not-suc-le-zero}
use borrow.Author.Tests.{leb-true, eqb-false, not-true}
use lib.Dec.{eqb, leb}
use lib.ListN.{length, get_or}
use Rattle.basics.specs.Choice.{both, between}
use Rattle.basics.proofs.Flags.{left_of_both, right_of_both}
use Rattle.keys.specs.Named.{pause_key}
use Rattle.runs.specs.Demand.{end_of, ThirdDemand}
use Rattle.wrong_docks.specs.Breaking.{Wrong, differ, breaks}
use Rattle.wrong_docks.specs.Listed.{two_pressed, swapped_places, fifteen, wrong_docks}
use Rattle.runs.proofs.Computing.{run_on_values}

-- Answers that differ are not the same.
apart : (x y : Bool) → differ x y ≡ true → x ≡ y → ⊥
apart true true e same = false≢true e
apart true false e same = false≢true (sym same)
apart false true e same = false≢true same
apart false false e same = false≢true e

-- A run that breaks demand 3 of a dock refutes it.
refutes : (m : Machine) (earlier calls : List Call) (key : ℕ) → breaks m earlier calls key ≡ true → ThirdDemand m → ⊥
unfolding breaks
refutes m earlier calls key e demand =
    let before = after_calls m (woken m) earlier in
    let end = end_of m earlier calls in
    let begins = may_begin m before in
    let calm = undisturbed m (beginning before) calls in
    let nothing = nothing_waits m end.dock in
    let is_key = between 1 last_key key in
    let other = not (eqb key pause_key) in
    let apart-here = differ (is_down end.terminal key) (scans_say end key) in
    let behind1 = right_of_both begins (both calm (both nothing (both is_key (both other apart-here)))) e in
    let behind2 = right_of_both calm (both nothing (both is_key (both other apart-here))) behind1 in
    let behind3 = right_of_both nothing (both is_key (both other apart-here)) behind2 in
    let behind4 = right_of_both is_key (both other apart-here) behind3 in
    let within = left_of_both is_key (both other apart-here) behind3 in
    apart (is_down end.terminal key) (scans_say end key) (right_of_both other apart-here behind4)
    (demand earlier calls
    (record {
      begins = left_of_both begins (both calm (both nothing (both is_key (both other apart-here)))) e;
      calm = left_of_both calm (both nothing (both is_key (both other apart-here))) behind1;
      nothing = left_of_both nothing (both is_key (both other apart-here)) behind2;
    })
    key
    (leb-true 1 key (left_of_both (leb 1 key) (leb key last_key) within))
    (leb-true key last_key (right_of_both (leb 1 key) (leb key last_key) within))
    (eqb-false key pause_key (not-true (eqb key pause_key) (left_of_both other apart-here behind4))))

-- Whether the run of a wrong dock breaks it.
abbrev breaks_own : Wrong → Bool
breaks_own w = breaks w.machine w.earlier w.calls w.key

abbrev head_or : Bool → List Bool → Bool
head_or d [] = d
head_or d (x ∷ xs) = x

abbrev tail_of : List Bool → List Bool
tail_of [] = []
tail_of (x ∷ xs) = xs

at_each : (l : List Wrong) → map breaks_own l ≡ map (λ (w : Wrong). true) l → (i : ℕ) → i < length l → (none : Wrong)
    → ThirdDemand (get_or l i none).machine → ⊥
at_each [] e i h none = absurd (not-suc-le-zero h)
at_each (w ∷ ws) e zero h none = refutes w.machine w.earlier w.calls w.key (ap (head_or true) e)
at_each (w ∷ ws) e (suc i) h none = at_each ws (ap tail_of e) i (le_of_suc-le-suc h) none

-- All runs, computed.
all_break : map breaks_own wrong_docks ≡ map (λ (w : Wrong). true) wrong_docks
unfolding run_on_values end_of says_held_from says_held breaks two_pressed swapped_places fifteen wrong_docks
all_break = refl

-- Demand 3 is false of each.
pub each_refuted : (i : ℕ) → i < length wrong_docks → (none : Wrong) → ThirdDemand (get_or wrong_docks i none).machine → ⊥
each_refuted = at_each wrong_docks all_break
