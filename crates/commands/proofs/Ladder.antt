-- What a command does, taken case by case: what holds in each case, with what the case knows of the byte, holds of the command. Whoever
-- needs the cases takes them from here. Assumes nothing.
use mathlib.Core.Path.{◌≡◌, refl}
use mathlib.Core.Logic.{◌⊎◌, inl, inr}
use mathlib.Core.Bool.{Bool, true, false}
use Prim.Native.Nat.{ℕ, ◌-◌, ◌≤◌, ◌<◌}
use native.Mathlib.Omega.{arith}
use borrow.Author.Tests.{eqb-true, eqb-false, leb-true, leb-false, le-leb}
use lib.Dec.{eqb, leb}
use Rattle.basics.specs.Choice.{between}
use Rattle.basics.proofs.Cases.{by_cases, never}
use Rattle.basics.proofs.Flags.{left_of_both, right_of_both}
use Rattle.record.specs.declared.Dock.{Dock}
use Rattle.commands.specs.Commands.{cleared, readied, enabled, defaulted, disabled, typed, restarted, obeyed}

-- None of the commands that do something at once: F0, F4 to FD, FF.
pub record Mild (byte : ℕ) : Type 0 where
  pub not_f0 : byte ≡ 0xf0 → ⊥
  pub apart : (byte < 0xf4) ⊎ (0xfd < byte)
  pub not_ff : byte ≡ 0xff → ⊥

-- A number from the low end of a range on that is not in it is past it.
past : (low high byte : ℕ) → low ≤ byte → between low high byte ≡ false → high < byte
past low high byte from none = go (leb byte high) refl
  where
    go : (b : Bool) → leb byte high ≡ b → high < byte
    go true e = never (between low high byte) (rw (le-leb low byte from) e) none
    go false e = leb-false byte high e

module _ (P : Dock → Type 0) (byte : ℕ) (d : Dock) where
  pub by_command : (byte ≡ 0xf0 → P (readied d)) → (byte ≡ 0xf4 → P (enabled d)) → (byte ≡ 0xf5 → P (disabled d))
      → (byte ≡ 0xf6 → P (defaulted d)) → (0xf7 ≤ byte → byte ≤ 0xfa → P (typed (byte - 0xf7) d))
      → (0xfb ≤ byte → byte ≤ 0xfd → P (cleared d)) → (byte ≡ 0xff → P (restarted d)) → (Mild byte → P d) → P (obeyed byte d)
  unfolding obeyed
  by_command f0 f4 f5 f6 all one ff none =
      by_cases P (eqb byte 0xf0) (readied d) _ (λ h. f0 (eqb-true byte 0xf0 h))
      (λ not_f0. by_cases P (eqb byte 0xf4) (enabled d) _ (λ h. f4 (eqb-true byte 0xf4 h))
      (λ not-f4. by_cases P (eqb byte 0xf5) (disabled d) _ (λ h. f5 (eqb-true byte 0xf5 h))
      (λ not-f5. by_cases P (eqb byte 0xf6) (defaulted d) _ (λ h. f6 (eqb-true byte 0xf6 h))
      (λ not-f6. by_cases P (between 0xf7 0xfa byte) (typed (byte - 0xf7) d) _ (λ h. all (low 0xf7 0xfa h) (high 0xf7 0xfa h))
      (λ not-all. by_cases P (between 0xfb 0xfd byte) (cleared d) _ (λ h. one (low 0xfb 0xfd h) (high 0xfb 0xfd h))
      (λ not-one. by_cases P (eqb byte 0xff) (restarted d) d (λ h. ff (eqb-true byte 0xff h))
      (λ not_ff. none
      (record {
        not_f0 = eqb-false byte 0xf0 not_f0;
        apart = outside (leb 0xf4 byte) refl (eqb-false byte 0xf4 not-f4) (eqb-false byte 0xf5 not-f5) (eqb-false byte 0xf6 not-f6) not-all not-one;
        not_ff = eqb-false byte 0xff not_ff;
      }))))))))
    where
      low : (a b : ℕ) → between a b byte ≡ true → a ≤ byte
      low a b h = leb-true a byte (left_of_both (leb a byte) (leb byte b) h)

      high : (a b : ℕ) → between a b byte ≡ true → byte ≤ b
      high a b h = leb-true byte b (right_of_both (leb a byte) (leb byte b) h)

      outside : (from : Bool) → leb 0xf4 byte ≡ from → (byte ≡ 0xf4 → ⊥) → (byte ≡ 0xf5 → ⊥) → (byte ≡ 0xf6 → ⊥)
          → between 0xf7 0xfa byte ≡ false → between 0xfb 0xfd byte ≡ false → (byte < 0xf4) ⊎ (0xfd < byte)
      outside false e a b c all one = inl (leb-false 0xf4 byte e)
      outside true e a b c all one =
          let from = leb-true 0xf4 byte e in
          let over = past 0xf7 0xfa byte (omega arith) all in
          inr (past 0xfb 0xfd byte (omega arith) one)
