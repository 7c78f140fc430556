-- What a byte from the host does, taken case by case, as commands/proofs/Ladder has it for commands. Assumes nothing.
use mathlib.Core.Path.{◌≡◌}
use mathlib.Core.List.{[], ◌∷◌}
use Rattle.std.specs.Prelude.{Option, Some, None}
use Prim.Native.Nat.{ℕ, ◌-◌, ◌≤◌, ◌<◌}
use borrow.Author.Tests.{eqb-true, eqb-false, leb-true, leb-false}
use lib.Dec.{eqb, leb}
use Rattle.basics.specs.Choice.{between}
use Rattle.basics.proofs.Cases.{by_cases}
use Rattle.basics.proofs.Flags.{left_of_both, right_of_both}
use Rattle.commands.specs.Commands.{replying, with_set, with_rate, commanded}
use Rattle.lookup.specs.Lookup.{key_with}
use Rattle.record.specs.declared.Dock.{Dock}
use Rattle.host.specs.declared.values.Asked.{Asked}
use Rattle.host.specs.declared.values.Asked.TheVariants.{Indicators, Set, WhichSet, Rate, KeyType}
use Rattle.host.specs.Values.{asked_of, with_indicators, with_type, granted, valued, took_value, took_byte}

-- What a value asks of a command, with what is known of the two in each case.
pub by_asked : (P : Option Asked → Type 0) (command value : ℕ)
    → (command ≡ 0xed → value ≤ 7 → P (Some (Indicators value)))
    → (command ≡ 0xf0 → 1 ≤ value → value ≤ 3 → P (Some (Set value)))
    → (command ≡ 0xf0 → value ≡ 0 → P (Some WhichSet))
    → (command ≡ 0xf3 → value ≤ 127 → P (Some (Rate value)))
    → (0xfb ≤ command → command ≤ 0xfd → (key_with 3 value ≡ 0 → ⊥) → P (Some (KeyType (key_with 3 value) (command - 0xfb))))
    → P None → P (asked_of command value)
unfolding asked_of
by_asked P command value lamps chosen which rate type wrong =
    by_cases P (eqb command 0xed) _ _
    (λ ed. by_cases P (leb value 7) _ _ (λ h. lamps (eqb-true command 0xed ed) (leb-true value 7 h)) (λ h. wrong))
    (λ h. by_cases P (eqb command 0xf0) _ _
    (λ f0. by_cases P (between 1 3 value) _ _
    (λ h. chosen (eqb-true command 0xf0 f0) (leb-true 1 value (left_of_both (leb 1 value) (leb value 3) h)) (leb-true value 3 (right_of_both (leb 1 value) (leb value 3) h)))
    (λ h. by_cases P (eqb value 0) _ _ (λ h. which (eqb-true command 0xf0 f0) (eqb-true value 0 h)) (λ h. wrong)))
    (λ h. by_cases P (eqb command 0xf3) _ _
    (λ f3. by_cases P (leb value 127) _ _ (λ h. rate (eqb-true command 0xf3 f3) (leb-true value 127 h)) (λ h. wrong))
    (λ h. by_cases P (between 0xfb 0xfd command) _ _
    (λ r. by_cases P (eqb (key_with 3 value) 0) _ _ (λ h. wrong)
    (λ h. type (leb-true 0xfb command (left_of_both (leb 0xfb command) (leb command 0xfd) r)) (leb-true command 0xfd (right_of_both (leb 0xfb command) (leb command 0xfd) r))
    (eqb-false (key_with 3 value) 0 h)))
    (λ h. wrong))))

module _ (P : Dock → Type 0) (byte : ℕ) (d : Dock) where
  -- What it does, if the command is the one that waits.
  pub by_value : P (granted [] (with_indicators byte d)) → (d.rest.waiting ≡ 0xf0 → P (granted [] (with_set byte d)))
      → P (granted (d.rest.mode.set ∷ []) d) → P (granted [] (with_rate byte d))
      → P (granted [] (with_type (key_with 3 byte) (d.rest.waiting - 0xfb) d)) → P (replying (0xfe ∷ []) d) → P (took_value byte d)
  unfolding valued
  by_value lamps chosen which rate type wrong =
      by_asked (λ (asked : Option Asked). P (valued asked d)) d.rest.waiting byte
      (λ ed h. lamps) (λ f0 low high. chosen f0) (λ f0 h. which) (λ f3 h. rate) (λ low high h. type) wrong

  -- FE, a command, or a value.
  pub by_byte : (byte ≡ 0xfe → P (replying (d.rest.given ∷ []) d)) → ((byte ≡ 0xfe → ⊥) → 0xed ≤ byte → P (commanded byte d))
      → (byte < 0xed → P (took_value byte d)) → P (took_byte byte d)
  unfolding took_byte
  by_byte again command value =
      by_cases P (eqb byte 0xfe) (replying (d.rest.given ∷ []) d) _ (λ h. again (eqb-true byte 0xfe h))
      (λ other. by_cases P (leb 0xed byte) (commanded byte d) _ (λ h. command (eqb-false byte 0xfe other) (leb-true 0xed byte h))
      (λ low. value (leb-false 0xed byte low)))
