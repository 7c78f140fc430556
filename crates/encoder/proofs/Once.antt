-- The encoder's promise leaves no second answer, and no second output. Assumes nothing.
use mathlib.Core.Path.{◌≡◌}
use mathlib.Core.List.{List}
use Prim.Native.Nat.{ℕ}
use Rattle.basics.proofs.Once.{one_answer}
use Rattle.std.specs.Prelude.{Result}
use Rattle.encoder.specs.declared.EncodeError.{EncodeError}
use Rattle.encoder.specs.Encoder.{Encodes}

pub encodes_once : (set key event type modifiers lock : ℕ) (out : List ℕ) (r s : Result ℕ EncodeError) (after after' : List ℕ)
    → Encodes set key event type modifiers lock out r after → Encodes set key event type modifiers lock out s after'
    → (r ≡ s) × (after ≡ after')
encodes_once set key event type modifiers lock out r s after after' p q =
    (one_answer p.answer q.answer, one_answer p.output q.output)
