-- What waits tells a terminal of the held keys, in sets 1 and 2: a terminal that has read it all finds them down, Pause apart. This
-- holds on whatever keys do, as long as their bytes fit. Assumes nothing.
use mathlib.Core.Path.{◌≡◌, refl, ◌∙◌}
use mathlib.Core.Logic.{◌⊎◌, ⊎_elim}
use mathlib.Core.Bool.{Bool, true, false, not}
use mathlib.Core.List.{List, [], ◌++◌}
use Prim.Native.Nat.{ℕ, zero, suc, ◌+◌, ◌≤◌}
use native.Mathlib.Omega.{arith}
use borrow.Author.Tests.{eqb-false, not-true}
use lib.Dec.{eqb}
use lib.ListN.{length, get_or, set, drop}
use Rattle.basics.specs.Choice.{either}
use Rattle.basics.specs.Lists.{all_up_to}
use Rattle.basics.proofs.Flags.{left_of_both}
use Rattle.basics.proofs.Limits.{up_to_at}
use Rattle.keys.specs.Keys.{last_key}
use Rattle.codes.specs.declared.Action.TheVariants.{Press, Release}
use Rattle.codes.specs.Codes.{may_repeat}
use Rattle.queue.specs.declared.Queue.{Queue}
use Rattle.queue.specs.Queues.{waiting, queue_of}
use Rattle.queue.proofs.Meaning.{waiting-queue_of}
use Rattle.record.specs.declared.Mode.{Mode}
use Rattle.record.specs.Views.{Keys, with_queue}
use Rattle.record.specs.Held.{is_held, modifiers_of}
use Rattle.sending.specs.Sending.{num_lock, sends}
use Rattle.keying.specs.Handover.{Handed, can_leave, handed_from}
use Rattle.keying.specs.Changes.{pressed, released_with, released, turns_to}
use Rattle.keying.specs.Repeat.{is_due, repeated}
use Rattle.terminal.specs.Terminals.{Terminal, terminal, hears, hears_all}
use Rattle.terminal.proofs.Hearing.{hears_more, hears_first}
use Rattle.terminal.proofs.Heard.{press_heard, release_heard, repeat_heard}
use Rattle.telling.specs.Overruns.{overruns_at, overruns_to}
use Rattle.basics.proofs.Cases.{by_cases, picked, neither_first, neither_second}
use Rattle.telling.proofs.Turning.{Fits, each_turn}
use Rattle.telling.proofs.Whole.{pressed_whole, released_whole}

-- A terminal that reads set s, and has still to read what waits.
pub record Told (s : ℕ) (t : Terminal) (k : Keys) : Type 0 where
  pub told : hears_all s t (waiting k.queue) ≡ terminal 0 (set k.held 101 0)

-- One that has nothing more to read finds the held keys down.
pub told_empty : (s : ℕ) (t : Terminal) (k : Keys) → waiting k.queue ≡ [] → Told s t k → t ≡ terminal 0 (set k.held 101 0)
unfolding hears_all
told_empty s t k none p = rw none at p.told

-- And one that finds them down is told, if nothing waits.
pub empty_told : (s : ℕ) (t : Terminal) (k : Keys) → waiting k.queue ≡ [] → t ≡ terminal 0 (set k.held 101 0) → Told s t k
unfolding hears_all
empty_told s t k none e = grind arith

-- It may read the oldest byte.
pub byte_told : (s : ℕ) (t : Terminal) (k : Keys) → 1 ≤ length (waiting k.queue) → Told s t k
    → Told s (hears s t (get_or (waiting k.queue) 0 0)) (with_queue k (queue_of (drop 1 (waiting k.queue))))
byte_told s t k some p =
    record { told = rw waiting-queue_of (hears_first s t (waiting k.queue) some ∙ p.told) }

module _ (m : Mode) (h : (m.set ≡ 1) ⊎ (m.set ≡ 2)) (t : Terminal) where
  -- Bytes behind those that wait are heard by a terminal that finds the held keys down.
  behind : (k : Keys) (bytes after : List ℕ) → after ≡ waiting k.queue ++ bytes → Told m.set t k
      → hears_all m.set t after ≡ hears_all m.set (terminal 0 (set k.held 101 0)) bytes
  behind k bytes after e p = grind (arith, hears_more)

  pub pressed_told : (k : Keys) (type key : ℕ) → 1 ≤ key → key ≤ last_key → Fits k m type key Press
      → Told m.set t k → Told m.set t (pressed k m type key)
  unfolding pressed sends
  pressed_told k type key low high room p =
      record {
        told = behind k _ _ (pressed_whole m k type key room) p
            ∙ press_heard m.set h key low high type (modifiers_of k.held) (num_lock m.indicators) k.held;
      }

  released_told : (k : Keys) (type key : ℕ) → 1 ≤ key → key ≤ last_key → Fits k m type key Release
      → Told m.set t k → Told m.set t (released k m type key)
  unfolding released released_with sends
  released_told k type key low high room p =
      record {
        told = behind k _ _ (released_whole m k type key room) p
            ∙ release_heard m.set h key low high type (modifiers_of k.held) (num_lock m.indicators) k.held;
      }

  module _ (types : List ℕ) where
    pub turns_told : (map : List ℕ) → all_up_to last_key map ≡ true → (n : ℕ) (was is : List ℕ) (k : Keys) → overruns_to n m types map was is k ≡ false
        → Told m.set t k → Told m.set t (turns_to n m types map was is k)
    unfolding turns_to overruns_to
    turns_told map a zero was is k fits p = p
    turns_told map a (suc n) was is k fits p =
        let so_far = turns_to n m types map was is k in
        let before = overruns_to n m types map was is k in
        let now = overruns_at m types map was is n so_far in
        let key = get_or map n 0 in
        let q = turns_told map a n was is k (neither_first before now fits) p in
        each_turn (λ (e : Keys) (bytes : List ℕ). Told m.set t e) m types so_far q key
        (λ low room. pressed_told so_far (get_or types key 0) key low (up_to_at last_key map n a) room q)
        (λ low room. released_told so_far (get_or types key 0) key low (up_to_at last_key map n a) room q)
        map was is n refl (neither_second before now fits)

    pub handed_told : (n key : ℕ) → 1 ≤ key → key + n ≤ suc last_key → (k : Keys)
        → Told m.set t k → Told m.set t (handed_from n key k m types).keys
    unfolding handed_from
    handed_told zero key low high k p = p
    handed_told (suc n) key low high k p =
        by_cases (λ (e : Handed). Told m.set t e.keys) (either (not (is_held k key)) (can_leave k m types key)) _ _
        (λ free. handed_told n (suc key) (omega arith) (omega arith) _
        (by_cases (Told m.set t) (is_held k key) _ _
        (λ held. released_told k (get_or types key 0) key low (omega arith) (rw held at free) p)
        (λ up. p)))
        (λ stays. p)

    -- A repeat is sent where nothing waits, and of a key that is held.
    pub repeated_told : (k : Keys) (quiet : Bool) → (k.repeating ≡ 0) ⊎ (get_or k.held k.repeating 0 ≡ 1) → k.repeating ≤ last_key
        → (quiet ≡ true → waiting k.queue ≡ []) → Told m.set t k → Told m.set t (repeated k m types quiet)
    unfolding repeated sends
    repeated_told k quiet held high none p =
        let key = k.repeating in
        let type = get_or types key 0 in
        by_cases (Told m.set t) (is_due k) _ _
        (λ due. picked (Told m.set t) (may_repeat m.set key type) _ _
        (record {
          told = by_cases (λ (q : Queue). hears_all m.set t (waiting q) ≡ terminal 0 (set k.held 101 0)) quiet _ _
              (λ now.
              let other = eqb-false key 0 (not-true _ (left_of_both (not (eqb key 0)) (eqb k.countdown 0) due)) in
              let down : get_or k.held key 0 ≡ 1 = ⊎_elim (λ z. absurd (other z)) (λ d. d) held in
              rw (waiting-queue_of, told_empty m.set t k (none now) p)
              (repeat_heard m.set h key (omega arith) high type (modifiers_of k.held) (num_lock m.indicators) k.held down))
              (λ later. p.told);
        })
        (record { told = p.told }))
        (λ not-due. p)
