-- A key goes down or comes up, as the code meets it: by the sequence that holds its bytes. Assumes nothing.
use mathlib.Core.Path.{◌≡◌, sym, ap}
use mathlib.Core.Bool.{Bool, true, false}
use mathlib.Core.List.{List}
use Prim.Native.Nat.{ℕ}
use borrow.Author.Tests.{eq-eqb, ne_eqb}
use Rattle.codes.specs.declared.Action.TheVariants.{Press, Release}
use Rattle.codes.specs.declared.Sequence.{Sequence}
use Rattle.codes.specs.Codes.{may_repeat}
use Rattle.codes.specs.Sequences.{holding}
use Rattle.queue.specs.declared.Queue.{Queue}
use Rattle.queue.specs.Queues.{contents}
use Rattle.record.specs.declared.Mode.{Mode}
use Rattle.record.specs.Views.{keys, Keys}
use Rattle.record.specs.Held.{key_down, key_up}
use Rattle.sending.specs.Sending.{sends, queued_of}
use Rattle.sending.proofs.Sent.{sequence_is}
use Rattle.keying.specs.Repeat.{delay_of}
use Rattle.keying.specs.Changes.{pressed, let_go, released_with, released}

module _ (k : Keys) (m : Mode) (type key : ℕ) where
  pub released_by_its_bytes : (s : Sequence) → s ≡ holding (sends k m type key Release) → released_with k m key (contents s) ≡ released k m type key
  unfolding released
  released_by_its_bytes s e = ap (released_with k m key) (sequence_is k m type key Release s e)

  module _ (held : List ℕ) (held-is : held ≡ key_down k.held key) (q : Queue) (queue-is : q ≡ queued_of k.queue m (sends k m type key Press))
      (may : Bool) (t : may ≡ may_repeat m.set key type) where
    pub pressed_to_repeat : may ≡ true → (delay : ℕ) → delay ≡ delay_of m.rate → keys held q key delay ≡ pressed k m type key
    unfolding pressed
    pressed_to_repeat y delay d = simp (sym t, y, d, held-is, queue-is)

    pub pressed_once : may ≡ false → keys held q 0 0 ≡ pressed k m type key
    unfolding pressed
    pressed_once n = simp (sym t, n, held-is, queue-is)

  -- Its bytes are queued, and it is let go.
  pub released_by_letting_go : (q : Queue) → q ≡ queued_of k.queue m (sends k m type key Release) → let_go k key q ≡ released k m type key
  unfolding released released_with
  released_by_letting_go q e = ap (let_go k key) e

-- A key that is let go is the one that repeats, or another.
module _ (k : Keys) (key : ℕ) (held : List ℕ) (held-is : held ≡ key_up k.held key) where
  pub repeating_let_go : k.repeating ≡ key → keys held k.queue 0 0 ≡ let_go k key k.queue
  repeating_let_go e = simp (eq-eqb _ _ e, held-is)

  pub other_let_go : (k.repeating ≡ key → ⊥) → keys held k.queue k.repeating k.countdown ≡ let_go k key k.queue
  other_let_go n = simp (ne_eqb _ _ n, held-is)
