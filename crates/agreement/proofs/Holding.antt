-- The held keys are those that the counted scans say are held: after any calls since power-on, overruns, clearing frames and resets among
-- them, while no handover is open. So forms follow the scans (section 3), and a swap releases what they say. Assumes nothing.
use mathlib.Core.Path.{◌≡◌, ap, ◌∙◌}
use mathlib.Core.Bool.{false}
use mathlib.Core.List.{List}
use Prim.Native.Nat.{ℕ, ◌≤◌}
use Rattle.history.specs.Scans.{says_held}
use Rattle.record.specs.Held.{is_held}
use Rattle.record.specs.Views.{keys_of}
use Rattle.dock.specs.Calls.{Call}
use Rattle.runs.specs.Machines.{ours}
use Rattle.runs.specs.Worlds.{woken, after_calls, scans_say}
use Rattle.agreement.proofs.SaidHeld.{held_is_said}
use Rattle.agreement.proofs.AnyCalls.{woken_sound, any_sound}

pub any_held : (calls : List Call) → (after_calls ours (woken ours) calls).dock.rest.handover ≡ false → (key : ℕ) → 1 ≤ key
    → is_held (keys_of (after_calls ours (woken ours) calls).dock) key ≡ scans_say (after_calls ours (woken ours) calls) key
any_held calls shut key low =
    let w = after_calls ours (woken ours) calls in
    let sound = any_sound calls (woken ours) woken_sound in
    held_is_said w.dock w.onlooker.scans sound.settled.ready shut key low
    ∙ ap (λ (map : List ℕ). says_held map w.onlooker.scans key) sound.knows.0
