-- Demand 3 (runs/specs/Demand) of our dock. Assumes nothing.
use mathlib.Core.Path.{◌≡◌, refl, sym, ap, ◌∙◌}
use mathlib.Core.Logic.{◌⊎◌, inl, inr}
use mathlib.Core.Bool.{true, false, not}
use mathlib.Core.List.{List}
use Prim.Native.Nat.{ℕ, zero, suc}
use native.Mathlib.Omega.{arith}
use borrow.Author.Tests.{eqb-true}
use lib.Dec.{eqb}
use lib.ListN.{get_or, set, replicate}
use lib.Seq.{get_or-set_other}
use Rattle.basics.specs.Choice.{both, between}
use Rattle.basics.proofs.Flags.{left_of_both, right_of_both}
use Rattle.basics.proofs.Cases.{never}
use Rattle.history.specs.Scans.{says_held}
use Rattle.runs.specs.Machines.{ours, nothing_waits}
use Rattle.runs.specs.Worlds.{World, woken, after_calls}
use Rattle.runs.specs.Runs.{none_held_from, may_begin, beginning}
use Rattle.runs.specs.Demand.{end_of, ThirdDemand}
use Rattle.telling.proofs.Told.{told_empty, empty_told}
use Rattle.terminal.specs.Terminals.{Terminal, terminal, begun}
use Rattle.agreement.proofs.SaidHeld.{held_is_said, none_held, zeros_by_place}
use Rattle.agreement.proofs.Taken.{nothing_is_quiet}
use Rattle.agreement.proofs.AnyCalls.{Sound, woken_sound, begun_sound, any_sound, InStep, any_in_step}
use Rattle.agreement.proofs.Ending.{quiet_empty, quiet_shut}
use Rattle.keys.specs.Named.{pause_key}
use Rattle.record.specs.Views.{keys_of}

one_or_two : (n : ℕ) → between 1 2 n ≡ true → (n ≡ 1) ⊎ (n ≡ 2)
one_or_two zero e = never false e refl
one_or_two (suc zero) e = inl refl
one_or_two (suc (suc zero)) e = inr refl
one_or_two (suc (suc (suc n))) e = grind arith

-- Where a terminal may begin, it follows.
begin_in_step : (w : World) → Sound w → may_begin ours w ≡ true → InStep (beginning w)
unfolding may_begin begun
begin_in_step w s e =
    let d = w.dock in
    let o = w.onlooker in
    let k = s.knows in
    let set-fine = between 1 2 o.set in
    let rest = both (eqb o.waiting 0) set-fine in
    let none = none_held_from 0 o.map o.scans in
    let behind = right_of_both (nothing_waits ours d) (both none rest) e in
    let last = right_of_both none rest behind in
    let idle = eqb-true o.waiting 0 (left_of_both (eqb o.waiting 0) set-fine last) in
    let silent = sym (nothing_is_quiet d s.range) ∙ left_of_both (nothing_waits ours d) (both none rest) e in
    let shut = quiet_shut d o.scans s.settled silent in
    let flags = zeros_by_place d.held
    (none_held d o.scans s.settled.ready shut (rw k.0 (left_of_both none rest behind)))
    ∙ ap (λ (n : ℕ). replicate n 0) s.settled.ready.places.flags in
    record {
      follows = record {
        chosen = rw k.3 (one_or_two o.set (right_of_both (eqb o.waiting 0) set-fine last));
        firm = λ f. omega (arith, k.2);
        told = empty_told d.rest.mode.set begun (keys_of d) (quiet_empty d silent)
            (sym (ap (λ (l : List ℕ). terminal 0 (set l pause_key 0)) flags));
      };
      same = k.3;
    }

pub third_demand : ThirdDemand ours
unfolding end_of
third_demand earlier calls p key low high other =
    let before = after_calls ours (woken ours) earlier in
    let start = beginning before in
    let end = after_calls ours start calls in
    let reached = any_sound earlier (woken ours) woken_sound in
    let begins = begun_sound before reached in
    let sound = any_sound calls start begins in
    let follows = (any_in_step calls start begins p.calm (begin_in_step before reached p.begins)).follows in
    let d = end.dock in
    let silent = sym (nothing_is_quiet d sound.range) ∙ p.nothing in
    let read = told_empty d.rest.mode.set end.terminal (keys_of d) (quiet_empty d silent) follows.told in
    let flag = ap (λ (t : Terminal). get_or t.down key 0) read ∙ get_or-set_other d.held pause_key key 0 0 other in
    ap (λ (n : ℕ). not (eqb n 0)) flag
    ∙ held_is_said d end.onlooker.scans sound.settled.ready (quiet_shut d end.onlooker.scans sound.settled silent) key low
    ∙ ap (λ (map : List ℕ). says_held map end.onlooker.scans key) sound.knows.0
