-- Demand 3 speaks of moments when nothing waits, and they come: after any calls of such a run 1019 reads or more bring one, and then the
-- keys that the terminal finds down are exactly those that the counted scans say are held, Pause apart. Assumes nothing.
use native.Mathlib.Omega.{arith}
use mathlib.Core.Path.{◌≡◌, refl, ◌∙◌}
use mathlib.Core.Bool.{true}
use mathlib.Core.List.{List, [], ◌∷◌, ◌++◌}
use Prim.Native.Nat.{ℕ, zero, suc, ◌≤◌}
use lib.ListN.{replicate}
use Rattle.keys.specs.Keys.{last_key}
use Rattle.keys.specs.Named.{pause_key}
use Rattle.dock.specs.Scan.{quiet}
use Rattle.dock.specs.Calls.{Call, Read}
use Rattle.runs.specs.Machines.{ours}
use Rattle.runs.specs.Worlds.{World, woken, next, after_calls, scans_say}
use Rattle.runs.specs.Runs.{may_begin, beginning, undisturbed}
use Rattle.runs.specs.Demand.{end_of, Premises}
use Rattle.terminal.specs.Terminals.{is_down}
use Rattle.agreement.proofs.Taken.{nothing_is_quiet}
use Rattle.agreement.proofs.AnyCalls.{begun_sound}
use Rattle.agreement.proofs.Bounds.{Steady, any_steady, reached_steady}
use Rattle.agreement.proofs.Ending.{enough_reads}
use Rattle.agreement.proofs.ThirdDemand.{third_demand}

-- Calls and then more calls.
pub after_both : (calls more : List Call) (w : World) → after_calls ours w (calls ++ more) ≡ after_calls ours (after_calls ours w calls) more
unfolding after_calls
after_both [] more w = refl
after_both (call ∷ calls) more w = after_both calls more (next ours w call)

-- Reads disturb nothing,
reads_calm : (n : ℕ) (w : World) → undisturbed ours w (replicate n Read) ≡ true
unfolding undisturbed
reads_calm zero w = refl
reads_calm (suc n) w = reads_calm n (next ours w Read)

-- nor do they behind other calls.
calm_with_reads : (calls : List Call) (n : ℕ) (w : World) → undisturbed ours w (calls ++ replicate n Read) ≡ undisturbed ours w calls
unfolding undisturbed
calm_with_reads [] n w = reads_calm n w
calm_with_reads (call ∷ calls) n w = grind (arith, calm_with_reads calls n (next ours w call))

-- A read tells the onlooker nothing, so the scans say after reads what they said before.
pub reads_say_the_same : (n : ℕ) (w : World) (key : ℕ) → scans_say (after_calls ours w (replicate n Read)) key ≡ scans_say w key
unfolding after_calls next
reads_say_the_same zero w key = refl
reads_say_the_same (suc n) w key = reads_say_the_same n (next ours w Read) key

module _ (earlier calls : List Call) (begins : may_begin ours (after_calls ours (woken ours) earlier) ≡ true)
    (calm : undisturbed ours (beginning (after_calls ours (woken ours) earlier)) calls ≡ true) (n : ℕ) (enough : 1019 ≤ n) where
  -- After those reads the premises of demand 3 are met, so that what it says is so.
  pub reads_meet_premises : Premises ours earlier (calls ++ replicate n Read)
  unfolding end_of
  reads_meet_premises =
      let start = beginning (after_calls ours (woken ours) earlier) in
      let s = reached_steady earlier in
      let steady : Steady start = record { sound = begun_sound (after_calls ours (woken ours) earlier) s.sound; sized = s.sized } in
      let end = after_calls ours start (calls ++ replicate n Read) in
      let sound = (any_steady (calls ++ replicate n Read) start steady).sound in
      let silent : quiet end.dock ≡ true =
      rw (after_both calls (replicate n Read) start) (enough_reads (after_calls ours start calls) (any_steady calls start steady) n enough) in
      record {
        begins = begins;
        calm = calm_with_reads calls n start ∙ calm;
        nothing = nothing_is_quiet end.dock sound.range ∙ silent;
      }

  pub third_demand_after_reads : (key : ℕ) → 1 ≤ key → key ≤ last_key → (key ≡ pause_key → ⊥)
      → is_down (end_of ours earlier (calls ++ replicate n Read)).terminal key ≡ scans_say (end_of ours earlier (calls ++ replicate n Read)) key
  third_demand_after_reads = grind (arith, third_demand, reads_meet_premises)
