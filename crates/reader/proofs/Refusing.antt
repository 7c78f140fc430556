-- A refusal hands back the state in which the byte came. Assumes nothing.
use mathlib.Core.Path.{◌≡◌}
use Prim.Native.Nat.{ℕ}
use native.Mathlib.Omega.{arith}
use Rattle.std.specs.Prelude.{Err}
use Rattle.reader.specs.declared.ReadError.{ReadError}
use Rattle.reader.specs.Reader.{answer_of, state_in}

pub state_handed_back : (set state byte : ℕ) (error : ReadError) → answer_of set state byte ≡ Err error → state_in error ≡ state
unfolding answer_of
state_handed_back set state byte error e = grind arith
