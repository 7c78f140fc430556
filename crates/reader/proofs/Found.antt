-- A key as it is found moves as its number says. Assumes nothing.
use mathlib.Core.Path.{◌≡◌, refl}
use mathlib.Core.Bool.{Bool, true, false}
use Prim.Native.Nat.{ℕ}
use lib.Dec.{eqb}
use Rattle.basics.specs.Choice.{pick}
use Rattle.lookup.specs.Lookup.{found}
use Rattle.reader.specs.declared.Event.TheVariants.{Pressed, Released, Unknown}
use Rattle.reader.specs.Reader.{moves, key_moves}
use Rattle.std.specs.Prelude.{Some, None}

pub moves_found : (down : Bool) (key : ℕ) → moves down (found key) ≡ key_moves down key
moves_found down key = go (eqb key 0)
  where
    go : (b : Bool) → moves down (pick b None (Some key)) ≡ pick b Unknown (pick down (Pressed key) (Released key))
    go true = refl
    go false = refl
