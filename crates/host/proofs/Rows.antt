-- What a value asks of a command says the two, and the key whose type it gives is one. Assumes nothing.
use mathlib.Core.Path.{◌≡◌, refl, sym, subst, ap, ap₂, ◌∙◌}
use Prim.Native.Nat.{ℕ, ◌≤◌}
use native.Mathlib.Omega.{arith}
use Rattle.std.specs.Prelude.{Option, Some}
use Rattle.basics.specs.Choice.{pick}
use Rattle.basics.specs.Said.{Answers}
use Rattle.lookup.proofs.Own.{own_code}
use Rattle.lookup.proofs.Small.{key_with_small}
use Rattle.keys.specs.Keys.{last_key}
use Rattle.host.specs.declared.values.Asked.{Asked}
use Rattle.host.specs.declared.values.Asked.TheVariants.{KeyType}
use Rattle.host.specs.Values.{asked_of, asked_says, to_command, to_none, is_right, asked_said}
use Rattle.host.proofs.Ladder.{by_asked}

module _ (command value : ℕ) where
  -- A right value says its command and itself, and no other command and no other value.
  abbrev Told : Option Asked → Type 0
  Told asked = asked_says asked ≡ pick (is_right asked) (to_command command value) to_none

  pub said_back : asked_says (asked_of command value) ≡ asked_said command value
  unfolding asked_said
  said_back =
      by_asked Told command value (λ ed h. told ed refl) (λ f0 low high. told f0 refl) (λ f0 zero. told f0 zero) (λ f3 h. told f3 refl)
      (λ low high key. told (omega arith) (sym (own_code 3 value key)))
      refl
    where
      told : {n v : ℕ} → command ≡ n → value ≡ v → to_command n v ≡ to_command command value
      told e f = ap₂ to_command (sym e) (sym f)

  pub answers : (r : Option Asked) → r ≡ asked_of command value → Answers asked_says r (asked_of command value) (asked_said command value)
  answers r e = record { answer = e; said = ap asked_says e ∙ said_back }

  -- The key whose type is given is one.
  abbrev OfKey : Option Asked → Type 0
  OfKey (Some (KeyType key type)) = key ≤ last_key
  OfKey other = Unit {0}

  pub key_asked : (key type : ℕ) → Some (KeyType key type) ≡ asked_of command value → key ≤ last_key
  key_asked key type e =
      subst OfKey (sym e)
      (by_asked OfKey command value (λ ed h. tt) (λ f0 low high. tt) (λ f0 h. tt) (λ f3 h. tt) (λ low high h. key_with_small 3 value) tt)
