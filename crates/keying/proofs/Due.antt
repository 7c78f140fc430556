-- The countdown and the key that repeats, as the code meets them. Assumes nothing.
use mathlib.Core.Path.{◌≡◌, ap, ◌∙◌}
use mathlib.Core.Bool.{Bool, true, false}
use mathlib.Core.List.{List}
use Prim.Native.Nat.{ℕ}
use borrow.Author.Tests.{eq-eqb, ne_eqb}
use lib.ListN.{get_or}
use Rattle.codes.specs.declared.Action.TheVariants.{Repeat}
use Rattle.codes.specs.declared.Sequence.{Sequence}
use Rattle.codes.specs.Codes.{may_repeat}
use Rattle.codes.specs.Sequences.{holding}
use Rattle.queue.specs.declared.Queue.{Queue}
use Rattle.queue.specs.Queues.{queue_of, contents}
use Rattle.record.specs.declared.Mode.{Mode}
use Rattle.record.specs.Views.{Keys, keys}
use Rattle.sending.specs.Sending.{sends}
use Rattle.sending.proofs.Sent.{sequence_is}
use Rattle.keying.specs.Repeat.{interval_of, is_due, repeated}

module _ (k : Keys) (m : Mode) (types : List ℕ) (quiet : Bool) where
  pub repeats_none : k.repeating ≡ 0 → k ≡ repeated k m types quiet
  unfolding repeated
  repeats_none e = rw (eq-eqb k.repeating 0 e)

  module _ (some : k.repeating ≡ 0 → ⊥) where
    pub repeats_later : (k.countdown ≡ 0 → ⊥) → k ≡ repeated k m types quiet
    unfolding repeated
    repeats_later n = simp (ne_eqb k.repeating 0 some, ne_eqb k.countdown 0 n)

    module _ (now : k.countdown ≡ 0) (may : Bool) (t : may ≡ may_repeat m.set k.repeating (get_or types k.repeating 0)) where
      due : is_due k ≡ true
      due = simp (ne_eqb k.repeating 0 some, eq-eqb k.countdown 0 now)

      pub repeats_no_more : may ≡ false → keys k.held k.queue 0 k.countdown ≡ repeated k m types quiet
      unfolding repeated
      repeats_no_more n = rw (due, ← t, n, now)

      module _ (y : may ≡ true) (interval : ℕ) (i : interval ≡ interval_of m.rate) where
        pub repeats_lost : quiet ≡ false → keys k.held k.queue k.repeating interval ≡ repeated k m types quiet
        unfolding repeated
        repeats_lost f = rw (due, ← t, y, i, f)

        pub repeats_sent : quiet ≡ true → (s : Sequence) (q : Queue)
            → s ≡ holding (sends k m (get_or types k.repeating 0) k.repeating Repeat) → q ≡ queue_of (contents s)
            → keys k.held q k.repeating interval ≡ repeated k m types quiet
        unfolding repeated
        repeats_sent f s q e h =
            let alone : q ≡ queue_of (sends k m (get_or types k.repeating 0) k.repeating Repeat) =
            h ∙ ap queue_of (sequence_is k m (get_or types k.repeating 0) k.repeating Repeat s e) in
            rw (due, ← t, y, i, f, alone)
