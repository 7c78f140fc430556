-- What is found is a key, and the one whose number was looked for. Assumes nothing.
use mathlib.Core.Path.{◌≡◌, refl}
use mathlib.Core.Bool.{Bool, true, false}
use Prim.Native.Nat.{ℕ}
use borrow.Author.Tests.{eqb-false}
use lib.Dec.{eqb}
use Rattle.std.specs.Prelude.{Some, None}
use Rattle.basics.specs.Choice.{pick}
use Rattle.lookup.specs.Lookup.{found}

pub found_key : (number key : ℕ) → Some key ≡ found number → (key ≡ number) × (number ≡ 0 → ⊥)
found_key number key e = go (eqb number 0) refl e
  where
    go : (b : Bool) → eqb number 0 ≡ b → Some key ≡ pick b None (Some number) → (key ≡ number) × (number ≡ 0 → ⊥)
    go true zero e = cc
    go false some e = (cc, eqb-false number 0 some)
