-- Answers as the numbers that C sees. Assumes nothing.
use mathlib.Core.Path.{◌≡◌, refl}
use mathlib.Core.Bool.{Bool, true, false}
use mathlib.Core.List.{List}
use Prim.Native.Nat.{ℕ, ◌≤◌, ◌<◌}
use native.Mathlib.Omega.{arith}
use borrow.Author.Tests.{leb-true}
use lib.Dec.{leb, ltb, eqb}
use lib.ListN.{length}
use Rattle.std.specs.Prelude.{Result, Ok, Err}
use Rattle.basics.specs.Choice.{pick, both}
use Rattle.encoder.specs.declared.EncodeError.{EncodeError}
use Rattle.encoder.specs.declared.EncodeError.TheVariants.{BadChoice, ShortOutput}
use Rattle.encoder.specs.Encoder.{action_of, allowed, asked, encoded_of}
use Rattle.codes.proofs.Lengths.{encode_short}
use Rattle.reader.specs.declared.ReadError.TheVariants.{BadState, BadSet}
use Rattle.reader.specs.declared.Answer.{Answer}
use Rattle.reader.specs.Reader.{read_byte, answer_of}
use Rattle.roundtrip.proofs.OnlyItsOwn.{next_is_a_state}

-- At most eight bytes are written.
pub count_small : (set key event type modifiers lock : ℕ) (out : List ℕ) (count : ℕ)
    → Ok count ≡ encoded_of set key event type modifiers lock out → count ≤ 8
unfolding encoded_of asked
count_small set key event type modifiers lock out count e = go (allowed set key event type modifiers lock) (ltb (length out) 8) e
  where
    go : (a b : Bool) → ◌≡◌ {A = Result ℕ EncodeError} (Ok count) (pick a (pick b (Err ShortOutput) (Ok (length (asked set key event type modifiers lock)))) (Err BadChoice)) → count ≤ 8
    go true true w = cc
    go true false w =
        let same : count ≡ length (asked set key event type modifiers lock) = cc in
        omega (arith, encode_short set key (action_of event) type modifiers (eqb lock 1))
    go false b w = cc

-- The state that an accepted byte leaves is one of the fifteen.
pub next_small : (set state byte : ℕ) → byte < 256 → (answer : Answer) → Ok answer ≡ answer_of set state byte → answer.state ≤ 14
unfolding answer_of
next_small set state byte b answer e = go (leb state 14) refl (leb 1 set) refl (leb set 3) refl e
  where
    go : (x : Bool) → leb state 14 ≡ x → (y : Bool) → leb 1 set ≡ y → (z : Bool) → leb set 3 ≡ z
        → Ok answer ≡ pick x (pick (both y z) (Ok (read_byte set state byte)) (Err (BadSet state))) (Err (BadState state)) → answer.state ≤ 14
    go true p true q true r n =
        let same : answer ≡ read_byte set state byte = cc in
        rw same (next_is_a_state set state byte (leb-true 1 set q) (leb-true set 3 r) (leb-true state 14 p) b)
    go true p true q false r n = cc
    go true p false q z r n = cc
    go false p y q z r n = cc
