-- The third demand of the bench: it speaks of the calls of any session, and the bench's dock is the one that they leave. Assumes nothing.
use mathlib.Core.Path.{◌≡◌, refl, ap, ◌∙◌}
use mathlib.Core.List.{List, [], ◌∷◌, ◌++◌}
use Prim.Native.Nat.{ℕ, ◌≤◌}
use Rattle.keys.specs.Keys.{last_key}
use Rattle.keys.specs.Named.{pause_key}
use Rattle.printing.specs.Printing.{Printed}
use Rattle.lines.specs.Steps.{step_of}
use Rattle.record.specs.declared.Dock.{Dock}
use Rattle.record.specs.Power.{power_on}
use Rattle.runs.specs.Demand.{end_of, Premises}
use Rattle.runs.specs.Machines.{ours}
use Rattle.runs.specs.Worlds.{woken, after_calls, scans_say}
use Rattle.runs.specs.Runs.{beginning}
use Rattle.terminal.specs.Terminals.{is_down}
use Rattle.agreement.proofs.AnyCalls.{woken_sound, begun_sound, any_sound}
use Rattle.agreement.proofs.ThirdDemand.{third_demand}
use Rattle.session.specs.Sessions.{calls_of, after_lines, printed_for}
use Rattle.session.proofs.Sessions.{lines_are_calls}

-- Lines behind lines.
after_more : (earlier lines : List (List ℕ)) (d : Dock) → after_lines d (earlier ++ lines) ≡ after_lines (after_lines d earlier) lines
unfolding after_lines
after_more [] lines d = refl
after_more (line ∷ earlier) lines d = after_more earlier lines (step_of d line).dock

printed_more : (earlier lines : List (List ℕ)) (d : Dock) → printed_for d (earlier ++ lines) ≡ printed_for d earlier ++ printed_for (after_lines d earlier) lines
unfolding printed_for after_lines
printed_more [] lines d = refl
printed_more (line ∷ earlier) lines d = ap (λ (l : List Printed). (step_of d line).printed ∷ l) (printed_more earlier lines (step_of d line).dock)

-- The bench's dock after a session, from power-on, is that of the demand's run,
pub bench_dock : (earlier lines : List (List ℕ)) → after_lines power_on (earlier ++ lines) ≡ (end_of ours (calls_of earlier) (calls_of lines)).dock
unfolding end_of woken
bench_dock earlier lines =
    let before = after_calls ours (woken ours) (calls_of earlier) in
    let sound = any_sound (calls_of earlier) (woken ours) woken_sound in
    after_more earlier lines power_on
    ∙ ap (λ (d : Dock). after_lines d lines) (lines_are_calls earlier (woken ours) woken_sound)
    ∙ lines_are_calls lines (beginning before) (begun_sound before sound)

-- what a line prints is what it prints of that dock,
pub bench_prints : (earlier : List (List ℕ)) (line : List ℕ)
    → printed_for power_on (earlier ++ (line ∷ []))
    ≡ printed_for power_on earlier ++ ((step_of (after_calls ours (woken ours) (calls_of earlier)).dock line).printed ∷ [])
unfolding printed_for woken
bench_prints earlier line =
    printed_more earlier (line ∷ []) power_on
    ∙ ap (λ (d : Dock). printed_for power_on earlier ++ ((step_of d line).printed ∷ [])) (lines_are_calls earlier (woken ours) woken_sound)

-- and the terminal that reads along agrees with the panel.
pub bench_third_demand : (earlier lines : List (List ℕ)) → Premises ours (calls_of earlier) (calls_of lines)
    → (key : ℕ) → 1 ≤ key → key ≤ last_key → (key ≡ pause_key → ⊥)
    → is_down (end_of ours (calls_of earlier) (calls_of lines)).terminal key ≡ scans_say (end_of ours (calls_of earlier) (calls_of lines)) key
bench_third_demand earlier lines = third_demand (calls_of earlier) (calls_of lines)
