-- What a terminal makes of the bytes of a key in sets 1 and 2: if it finds the keys of `held` down before, it finds down after what
-- is held then. PAUSE, key 101, is struck and never found down: its flag counts as 0. Assumes nothing.
use mathlib.Core.Path.{◌≡◌, sym, ap, ◌∙◌}
use mathlib.Core.Logic.{◌⊎◌, inl, inr, dite}
use mathlib.Core.Bool.{Bool}
use mathlib.Core.List.{List}
use Prim.Native.Nat.{ℕ, ◌≤◌}
use native.Mathlib.Decide.{ℕ_discrete}
use borrow.Author.Tests.{ne_eqb}
use lib.ListN.{set, get_or}
use lib.Seq.{set-set, set_comm, set-get_or}
use Rattle.keys.specs.Keys.{last_key}
use Rattle.codes.specs.declared.Action.{Action}
use Rattle.codes.specs.declared.Action.TheVariants.{Press, Release, Repeat}
use Rattle.codes.specs.Codes.{encode}
use Rattle.reader.specs.declared.Event.{Event}
use Rattle.reader.specs.Reading.{Run}
use Rattle.roundtrip.specs.Wanted.{wanted}
use Rattle.roundtrip.proofs.ReadBack.{read_back_typeless}
use Rattle.terminal.specs.Terminals.{terminal, hears_all}
use Rattle.terminal.proofs.Hearing.{noticed_all, hears_events}

-- What is wanted of a key's bytes is the same in set 2 as in set 1.
alike : (s : ℕ) → (s ≡ 1) ⊎ (s ≡ 2) → (key : ℕ) (action : Action) (type : ℕ) → wanted s key action type ≡ wanted 1 key action type
unfolding wanted
alike s (inl e) key action type = rw e
alike s (inr e) key Press type = rw e
alike s (inr e) key Release type = rw e
alike s (inr e) key Repeat type = rw e

-- Noticed, it changes the flag of its key, but the flag of Pause stays 0.
module _ (held : List ℕ) (key type : ℕ) where
  press_noticed : noticed_all (wanted 1 key Press type) (set held 101 0) ≡ set (set held key 1) 101 0
  unfolding wanted
  press_noticed =
      dite (ℕ_discrete key 101)
      (λ e. rw e (sym (set-set held 101 1 0)))
      (λ n. rw (ne_eqb key 101 n) (sym (set_comm held key 101 1 0 n)))

  release_noticed : noticed_all (wanted 1 key Release type) (set held 101 0) ≡ set (set held key 0) 101 0
  unfolding wanted
  release_noticed =
      dite (ℕ_discrete key 101)
      (λ e. rw e (sym (set-set held 101 0 0)))
      (λ n. rw (ne_eqb key 101 n) (sym (set_comm held key 101 0 0 n)))

  repeat_noticed : get_or held key 0 ≡ 1 → noticed_all (wanted 1 key Repeat type) (set held 101 0) ≡ set held 101 0
  unfolding wanted
  repeat_noticed down =
      let still : set held key 1 ≡ held = rw down at (set-get_or held key 0) in
      dite (ℕ_discrete key 101)
      (λ e. rw e)
      (λ n. rw (ne_eqb key 101 n) (sym (set_comm held key 101 1 0 n) ∙ ap (λ (l : List ℕ). set l 101 0) still))

module _ (s : ℕ) (h : (s ≡ 1) ⊎ (s ≡ 2)) (key : ℕ) (low : 1 ≤ key) (high : key ≤ last_key) (type modifiers : ℕ) (lock : Bool)
    (held : List ℕ) where
  heard : (action : Action) (down : List ℕ)
      → hears_all s (terminal 0 down) (encode s key action type modifiers lock) ≡ terminal 0 (noticed_all (wanted 1 key action type) down)
  heard action down =
      hears_events s 0 down _
      ∙ ap (λ (r : Run). terminal r.state (noticed_all r.events down)) (read_back_typeless key low high action s h type modifiers lock)
      ∙ ap (λ (events : List Event). terminal 0 (noticed_all events down)) (alike s h key action type)

  pub press_heard : hears_all s (terminal 0 (set held 101 0)) (encode s key Press type modifiers lock)
      ≡ terminal 0 (set (set held key 1) 101 0)
  press_heard = heard Press (set held 101 0) ∙ ap (terminal 0) (press_noticed held key type)

  pub release_heard : hears_all s (terminal 0 (set held 101 0)) (encode s key Release type modifiers lock)
      ≡ terminal 0 (set (set held key 0) 101 0)
  release_heard = heard Release (set held 101 0) ∙ ap (terminal 0) (release_noticed held key type)

  pub repeat_heard : get_or held key 0 ≡ 1
      → hears_all s (terminal 0 (set held 101 0)) (encode s key Repeat type modifiers lock) ≡ terminal 0 (set held 101 0)
  repeat_heard down = heard Repeat (set held 101 0) ∙ ap (terminal 0) (repeat_noticed held key type down)
