-- What a key sends: at most 8 bytes, and a sequence that holds them has them as its contents. Assumes nothing.
use mathlib.Core.Path.{◌≡◌, refl, sym, ap, ◌∙◌}
use mathlib.Core.Bool.{Bool, true, false}
use mathlib.Core.List.{List}
use Prim.Native.Nat.{ℕ, ◌+◌, ◌*◌, ◌≤◌}
use native.Mathlib.Omega.{arith}
use borrow.Author.Tests.{not-true, not-false}
use lib.Dec.{eqb}
use lib.ListN.{get_or, length}
use Rattle.basics.proofs.Cases.{picked}
use Rattle.codes.specs.declared.Action.{Action}
use Rattle.codes.specs.declared.Sequence.{Sequence}
use Rattle.codes.specs.Sequences.{holding}
use Rattle.codes.proofs.Adding.{holding_length}
use Rattle.codes.proofs.Lengths.{encode_short}
use Rattle.queue.specs.Queues.{contents}
use Rattle.queue.proofs.Meaning.{contents_holding}
use Rattle.record.specs.declared.Mode.{Mode}
use Rattle.record.specs.Views.{Keys}
use Rattle.record.specs.Held.{held_at, flag_of, modifiers_of}
use Rattle.sending.specs.Sending.{num_lock, sends}

module _ (k : Keys) (m : Mode) (type key : ℕ) (action : Action) where
  pub sends_short : length (sends k m type key action) ≤ 8
  unfolding sends
  sends_short = encode_short m.set key action type (modifiers_of k.held) (num_lock m.indicators)

  module _ (s : Sequence) (e : s ≡ holding (sends k m type key action)) where
    pub sequence_is : contents s ≡ sends k m type key action
    sequence_is = ap contents e ∙ contents_holding (sends k m type key action)

    pub sequence_length : s.length ≡ length (sends k m type key action)
    sequence_length = rw (e, holding_length (sends k m type key action))

-- A key that is held counts 1, and any other 0.
module _ (held : List ℕ) (key : ℕ) (is : Bool) (e : is ≡ held_at held key) where
  pub flag_held : is ≡ true → 1 ≡ flag_of (get_or held key 0)
  flag_held t = rw (not-true (eqb (get_or held key 0) 0) (sym e ∙ t))

  pub flag_free : is ≡ false → 0 ≡ flag_of (get_or held key 0)
  flag_free f = rw (not-false (eqb (get_or held key 0) 0) (sym e ∙ f))

-- A flag counts at most 1,
pub flag_small : (x r : ℕ) → r ≡ flag_of x → r ≤ 1
flag_small x r e = rw e (picked (λ (n : ℕ). n ≤ 1) (eqb x 0) 0 1 (omega arith) (omega arith))

-- two as bits at most 3,
pub pair_small : (low high r : ℕ) → r ≡ flag_of low + 2 * flag_of high → r ≤ 3
pair_small low high r e = omega (arith, flag_small low (flag_of low) refl, flag_small high (flag_of high) refl)

-- and three such pairs are the modifiers' number.
pub three_pairs : (held : List ℕ) (shift ctrl alt : ℕ) → shift ≡ flag_of (get_or held 42 0) + 2 * flag_of (get_or held 53 0)
    → ctrl ≡ flag_of (get_or held 54 0) + 2 * flag_of (get_or held 58 0) → alt ≡ flag_of (get_or held 55 0) + 2 * flag_of (get_or held 57 0)
    → shift + 4 * ctrl + 16 * alt ≡ modifiers_of held
unfolding modifiers_of
three_pairs held shift ctrl alt e f g = omega arith
