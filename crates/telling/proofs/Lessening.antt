-- A handover never makes more of what is still to be read: the bytes that wait, and eight for each held key. Assumes nothing.
use mathlib.Core.Path.{◌≡◌}
use mathlib.Core.Bool.{true, not}
use mathlib.Core.List.{List}
use Prim.Native.Nat.{ℕ, zero, suc, ◌+◌, ◌*◌, ◌≤◌}
use native.Mathlib.Omega.{arith}
use lib.ListN.{length, get_or, length-append}
use Rattle.basics.specs.Choice.{pick, either}
use Rattle.keys.specs.Keys.{last_key}
use Rattle.queue.specs.Queues.{waiting}
use Rattle.sending.proofs.Sent.{sends_short}
use Rattle.keying.specs.Handover.{Handed, can_leave, handed_from}
use Rattle.keying.specs.Changes.{released_with, released}
use Rattle.record.specs.declared.Mode.{Mode}
use Rattle.record.specs.Views.{Keys}
use Rattle.record.specs.Held.{is_held, held_to, held_count}
use Rattle.basics.proofs.Cases.{by_cases}
use Rattle.telling.proofs.Handing.{down_own, down_any, fewer_held}
use Rattle.telling.proofs.Whole.{released_whole}

-- What is still to be read of the keys: the bytes that wait, and eight for each held key, the most that its release can have.
abbrev pub to_read : Keys → ℕ
to_read k = length (waiting k.queue) + 8 * held_count k.held

-- No more keys are held than there are.
pub held_most : (n : ℕ) (held : List ℕ) → held_to n held ≤ n
unfolding held_to
held_most zero held = omega arith
held_most (suc n) held = grind (arith, held_most n held)

module _ (m : Mode) (types : List ℕ) where
  released_less : (k : Keys) (key : ℕ) → 1 ≤ key → key ≤ last_key → is_held k key ≡ true → can_leave k m types key ≡ true
      → to_read (released k m (get_or types key 0) key) ≤ to_read k
  unfolding released released_with
  released_less k key low high held leaves = grind (arith, released_whole, length-append, fewer_held, down_any, down_own, sends_short)

  pub handed_less : (n key : ℕ) → 1 ≤ key → key + n ≤ suc last_key → (k : Keys) → to_read (handed_from n key k m types).keys ≤ to_read k
  unfolding handed_from
  handed_less zero key low high k = omega arith
  handed_less (suc n) key low high k =
      let next = pick (is_held k key) (released k m (get_or types key 0) key) k in
      by_cases (λ (h : Handed). to_read h.keys ≤ to_read k) (either (not (is_held k key)) (can_leave k m types key)) _ _
      (λ free.
      let later : to_read (handed_from n (suc key) next m types).keys ≤ to_read next = handed_less n (suc key) (omega arith) (omega arith) next in
      let now : to_read next ≤ to_read k =
      by_cases (λ (e : Keys). to_read e ≤ to_read k) (is_held k key) _ _
      (λ held. released_less k key low (omega arith) held (rw held at free))
      (λ up. omega arith) in
      omega arith)
      (λ stays. omega arith)
