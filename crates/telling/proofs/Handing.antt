-- A handover: flags only go down, a finished one leaves none up, and an unfinished one has more than half the queue waiting.
-- Assumes nothing.
use mathlib.Core.Path.{◌≡◌, refl, ◌∙◌}
use mathlib.Core.Logic.{◌⊎◌, inl, inr, ⊎_elim}
use mathlib.Core.Bool.{true, false, not}
use mathlib.Core.List.{List, [], ◌∷◌}
use Prim.Native.Nat.{ℕ, zero, suc, ◌+◌, ◌≤◌, ◌<◌}
use native.Mathlib.Decide.{ℕ_discrete}
use native.Mathlib.Omega.{arith}
use borrow.Author.Tests.{ne_eqb}
use lib.ListN.{length, get_or, set}
use Rattle.std.proofs.lemmas.Grind.{common_steps}
use Rattle.basics.specs.Choice.{pick, either}
use Rattle.keys.specs.Keys.{last_key}
use Rattle.codes.specs.declared.Action.TheVariants.{Release}
use Rattle.queue.specs.Queues.{waiting}
use Rattle.queue.proofs.Room.{no_room_waits}
use Rattle.sending.specs.Sending.{sends}
use Rattle.sending.proofs.Sent.{sends_short}
use Rattle.keying.specs.Handover.{Handed, can_leave, handed_from}
use Rattle.keying.specs.Changes.{released_with, released}
use Rattle.keying.proofs.Kept.{handed_keeps}
use Rattle.record.specs.declared.Mode.{Mode}
use Rattle.record.specs.Views.{Keys}
use Rattle.record.specs.Held.{is_held, flag_of, held_to}
use Rattle.telling.specs.Agreeing.{NoneOutside}
use Rattle.basics.proofs.Cases.{never}

-- A flag that is taken down is down, also where there is no place for one,
pub down_own : (held : List ℕ) (key : ℕ) → get_or (set held key 0) key 0 ≡ 0
down_own [] key = refl
down_own (x ∷ xs) zero = refl
down_own (x ∷ xs) (suc key) = down_own xs key

-- and any flag is down or as it was.
pub down_any : (held : List ℕ) (key j : ℕ) → (get_or (set held key 0) j 0 ≡ 0) ⊎ (get_or (set held key 0) j 0 ≡ get_or held j 0)
down_any held key j = grind (arith, common_steps)

-- The tests of a handover, as facts.
pub held_up : (k : Keys) (key : ℕ) → is_held k key ≡ true → get_or k.held key 0 ≡ 0 → ⊥
held_up k key h = grind arith

-- Where flags went down or stayed, no more keys are held,
module _ (before after : List ℕ) (lower : (j : ℕ) → (get_or after j 0 ≡ 0) ⊎ (get_or after j 0 ≡ get_or before j 0)) where
  flag_lower : (j : ℕ) → flag_of (get_or after j 0) ≤ flag_of (get_or before j 0)
  flag_lower j = grind arith

  no_more_held : (n : ℕ) → held_to n after ≤ held_to n before
  unfolding held_to
  no_more_held zero = omega arith
  no_more_held (suc n) = grind (arith, no_more_held n)

  -- and fewer if one of them went down.
  pub fewer_held : (j : ℕ) → 1 ≤ j → (get_or before j 0 ≡ 0 → ⊥) → get_or after j 0 ≡ 0 → (n : ℕ) → j ≤ n → held_to n after < held_to n before
  unfolding held_to
  fewer_held j some up down zero h = absurd (omega arith)
  fewer_held j some up down (suc n) h = go (ℕ_discrete j (suc n)) (λ l. fewer_held j some up down n l)
    where
      go : Dec (j ≡ suc n) → (j ≤ n → held_to n after < held_to n before) → held_to (suc n) after < held_to (suc n) before
      go (yes e) later =
          let was : flag_of (get_or before (suc n) 0) ≡ 1 = rw (← e, ne_eqb _ _ up) in
          let is : flag_of (get_or after (suc n) 0) ≡ 0 = rw (← e, down) in
          omega (arith, no_more_held n)
      go (no e) later = omega (arith, later (omega arith), flag_lower (suc n))

module _ (m : Mode) (types : List ℕ) where
  -- Whatever is handed over, a flag is down or as it was,
  handed_any : (n key : ℕ) (k : Keys) (j : ℕ)
      → (get_or (handed_from n key k m types).keys.held j 0 ≡ 0) ⊎ (get_or (handed_from n key k m types).keys.held j 0 ≡ get_or k.held j 0)
  unfolding released released_with
  handed_any n key k j =
      handed_keeps (λ (r : Keys). (get_or r.held j 0 ≡ 0) ⊎ (get_or r.held j 0 ≡ get_or k.held j 0)) m
      (λ r type key p.
      ⊎_elim (λ e. inl e) (λ e. ⊎_elim (λ d. inl (e ∙ d)) (λ d. inr (e ∙ d)) p) (down_any r.held key j))
      n key k types (inr refl)

  -- so one that is down stays down.
  handed_down : (n key : ℕ) (k : Keys) (j : ℕ) → get_or k.held j 0 ≡ 0 → get_or (handed_from n key k m types).keys.held j 0 ≡ 0
  handed_down n key k j down = grind (arith, handed_any)

  pub handed_outside : (n key : ℕ) (k : Keys) → NoneOutside k.held → NoneOutside (handed_from n key k m types).keys.held
  handed_outside n key k out j h = handed_down n key k j (out j h)

  -- A key that the handover has passed is not held.
  pub passed : Keys → ℕ → Keys
  passed k key = pick (is_held k key) (released k m (get_or types key 0) key) k

  passed_own : (k : Keys) (key : ℕ) → get_or (passed k key).held key 0 ≡ 0
  unfolding passed released released_with
  passed_own k key = grind (arith, common_steps)

  pub passed_gone : (n key : ℕ) (k : Keys) (j : ℕ) → j ≡ key → get_or (handed_from n (suc key) (passed k key) m types).keys.held j 0 ≡ 0
  passed_gone n key k j e = grind (arith, handed_down, passed_own)

  -- What holds of a handover holds if it holds where it goes on and where it stops.
  module _ (P : Handed → Type 0) (n key : ℕ) (k : Keys) where
    pub step : (either (not (is_held k key)) (can_leave k m types key) ≡ true → P (handed_from n (suc key) (passed k key) m types))
        → (is_held k key ≡ true → can_leave k m types key ≡ false → P (record { keys = k; unfinished = true }))
        → P (handed_from (suc n) key k m types)
    unfolding passed handed_from
    step on off = grind arith

  -- A finished handover has let every key go.
  handed_finished : (n key : ℕ) (k : Keys) → (handed_from n key k m types).unfinished ≡ false → (j : ℕ) → key ≤ j → j < key + n
      → get_or (handed_from n key k m types).keys.held j 0 ≡ 0
  handed_finished zero key k done j low high = absurd (omega arith)
  handed_finished (suc n) key k done j low high =
      step (λ (h : Handed). h.unfinished ≡ false → get_or h.keys.held j 0 ≡ 0) n key k
      (λ on e. go (ℕ_discrete j key) (handed_finished n (suc key) (passed k key) e j))
      (λ up stuck e. never true refl e)
      done
    where
      go : Dec (j ≡ key)
          → (suc key ≤ j → j < suc key + n → get_or (handed_from n (suc key) (passed k key) m types).keys.held j 0 ≡ 0)
          → get_or (handed_from n (suc key) (passed k key) m types).keys.held j 0 ≡ 0
      go (yes e) later = passed_gone n key k j e
      go (no e) later = later (omega arith) (omega arith)

  pub handed_all : (k : Keys) → NoneOutside k.held → (handed_from last_key 1 k m types).unfinished ≡ false
      → (j : ℕ) → get_or (handed_from last_key 1 k m types).keys.held j 0 ≡ 0
  handed_all k out done zero = grind (arith, handed_down)
  handed_all k out done (suc j) = grind (arith, handed_finished, handed_down)

  -- Where it stops there is no room: more than half the queue waits.
  pub handed_waits : (n key : ℕ) (k : Keys) → (handed_from n key k m types).unfinished ≡ true
      → 9 ≤ length (waiting (handed_from n key k m types).keys.queue)
  unfolding handed_from
  handed_waits zero key k e = never false e refl
  handed_waits (suc n) key k e =
      step (λ (h : Handed). h.unfinished ≡ true → 9 ≤ length (waiting h.keys.queue)) n key k
      (λ on. handed_waits n (suc key) (passed k key))
      (λ up stuck e.
      let bytes = sends k m (get_or types key 0) key Release in
      no_room_waits 0 (waiting k.queue) bytes stuck (sends_short k m (get_or types key 0) key Release))
      e
