-- A handover, key after key: what is left of it is the same handover from the next key on. Assumes nothing.
use mathlib.Core.Path.{◌≡◌, refl, sym, ap, ◌∙◌}
use mathlib.Core.Bool.{Bool, true, false}
use mathlib.Core.List.{List}
use Prim.Native.Nat.{ℕ, suc, ◌+◌, ◌-◌, ◌≤◌, ◌<◌}
use native.Mathlib.Numerals.{add-one}
use native.Mathlib.Omega.{arith}
use borrow.Author.Tests.{not-true, not-false}
use lib.Dec.{eqb}
use lib.ListN.{get_or}
use Rattle.keys.specs.Keys.{last_key, mark_of}
use Rattle.codes.specs.declared.Action.TheVariants.{Release}
use Rattle.codes.specs.declared.Sequence.{Sequence}
use Rattle.codes.specs.Sequences.{holding}
use Rattle.queue.specs.declared.Queue.{Queue}
use Rattle.queue.specs.Queues.{waiting, queue_of, contents, has_room, pushed_to}
use Rattle.record.specs.declared.Mode.{Mode}
use Rattle.record.specs.declared.Dock.{Dock}
use Rattle.record.specs.Views.{Keys, keys_of}
use Rattle.record.specs.Parts.{with_keys, with_handover}
use Rattle.record.specs.Held.{is_held}
use Rattle.range.specs.Range.{good_keys}
use Rattle.sending.specs.Sending.{sends, queued_of}
use Rattle.sending.proofs.Sent.{sequence_length}
use Rattle.keying.specs.Handover.{Handed, can_leave, handed_from, handed_over, with_handed}
use Rattle.keying.specs.Changes.{released_with, released}
use Rattle.keying.proofs.Good.{released_good}
use Rattle.keying.proofs.Changes.{released_by_its_bytes}

-- Pushed with the mark of the set, bytes are queued.
pub pushed_queued : (q after : Queue) (m : Mode) (mark : ℕ) (bytes : List ℕ) → mark ≡ mark_of m.set
    → after ≡ queue_of (pushed_to mark (waiting q) bytes) → after ≡ queued_of q m bytes
unfolding queued_of
pushed_queued q after m mark bytes i e = rw (← i) e

abbrev pub handed : Keys → Bool → Handed
handed k unfinished = record { keys = k; unfinished = unfinished }

-- One key: it is not held, or its release fits, or it has to wait.
module _ (m : Mode) (types : List ℕ) (n key : ℕ) (k : Keys) where
  key_passed : is_held k key ≡ false → handed_from (suc n) key k m types ≡ handed_from n (suc key) k m types
  unfolding handed_from
  key_passed z = rw (not-false (eqb (get_or k.held key 0) 0) z)

  module _ (h : is_held k key ≡ true) where
    key_leaves : can_leave k m types key ≡ true
        → handed_from (suc n) key k m types ≡ handed_from n (suc key) (released k m (get_or types key 0) key) m types
    unfolding handed_from
    key_leaves t = simp (not-true (eqb (get_or k.held key 0) 0) h, t)

    key_waits : can_leave k m types key ≡ false → handed_from (suc n) key k m types ≡ handed k true
    unfolding handed_from
    key_waits f = simp (not-true (eqb (get_or k.held key 0) 0) h, f)

module _ (d : Dock) where
  -- The keys below `key` are done with, and those from it on are still to come; of the record only the keys have changed.
  pub record Going (key : ℕ) (e : Dock) : Type 0 where
    pub good : good_keys (keys_of e) ≡ true
    pub only : e ≡ with_keys d (keys_of e)
    pub rest : handed_from (suc last_key - key) key (keys_of e) e.rest.mode e.types ≡ handed_over (keys_of d) d.rest.mode d.types

  pub begins : good_keys (keys_of d) ≡ true → Going 1 d
  begins g = record { good = g; only = refl; rest = refl }

  module _ (key : ℕ) (e : Dock) (going : Going key e) where
    -- The record as it is left where no key is left, or one has to wait.
    left : (unfinished : Bool) → handed (keys_of e) unfinished ≡ handed_over (keys_of d) d.rest.mode d.types
        → with_handover e unfinished ≡ with_handed d (handed_over (keys_of d) d.rest.mode d.types)
    left unfinished f = ap (λ (x : Dock). with_handover x unfinished) going.only ∙ ap (with_handed d) f

    pub ends : last_key < key → key ≤ suc last_key → with_handover e false ≡ with_handed d (handed_over (keys_of d) d.rest.mode d.types)
    unfolding handed_from
    ends a b =
        let none : suc last_key - key ≡ 0 = omega arith in
        left false (rw none at going.rest)

    module _ (h : key ≤ last_key) where
      here : handed_from (suc (last_key - key)) key (keys_of e) e.rest.mode e.types ≡ handed_over (keys_of d) d.rest.mode d.types
      here =
          let more : suc last_key - key ≡ suc (last_key - key) = omega arith in
          rw more at going.rest

      -- So it goes on with other keys, if the handover from the next key on makes the same of them.
      next : (k : Keys) → good_keys k ≡ true
          → handed_from (suc (last_key - key)) key (keys_of e) e.rest.mode e.types ≡ handed_from (last_key - key) (suc key) k e.rest.mode e.types
          → Going (key + 1) (with_keys e k)
      next k g step =
          let less : suc last_key - (key + 1) ≡ last_key - key = omega arith in
          record { good = g; only = ap (λ (x : Dock). with_keys x k) going.only; rest = rw (less, add-one) (sym step ∙ here) }

      pub passes : (after : Dock) → is_held (keys_of e) key ≡ false → after ≡ e → Going (key + 1) after
      passes after z f = rw f (next (keys_of e) going.good (key_passed e.rest.mode e.types (last_key - key) key (keys_of e) z))

      module _ (n : is_held (keys_of e) key ≡ true) (s : Sequence) (b : Bool)
          (i : s ≡ holding (sends (keys_of e) e.rest.mode (get_or e.types key 0) key Release))
          (j : b ≡ has_room (waiting e.rest.outgoing.queue) s.length) where
        can : b ≡ can_leave (keys_of e) e.rest.mode e.types key
        can = j ∙ ap (has_room (waiting e.rest.outgoing.queue)) (sequence_length (keys_of e) e.rest.mode (get_or e.types key 0) key Release s i)

        pub waits : b ≡ false → with_handover e true ≡ with_handed d (handed_over (keys_of d) d.rest.mode d.types)
        waits f = left true (sym (key_waits e.rest.mode e.types (last_key - key) key (keys_of e) n (sym can ∙ f)) ∙ here)

        pub leaves : b ≡ true → (after : Dock) → after ≡ with_keys e (released_with (keys_of e) e.rest.mode key (contents s)) → Going (key + 1) after
        leaves t after f =
            let type = get_or e.types key 0 in
            rw (f, released_by_its_bytes (keys_of e) e.rest.mode type key s i)
            (next (released (keys_of e) e.rest.mode type key) (released_good e.rest.mode (keys_of e) type key going.good)
            (key_leaves e.rest.mode e.types (last_key - key) key (keys_of e) n (sym can ∙ t)))
