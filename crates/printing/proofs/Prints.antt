-- Characters put in one go are the text that the definition writes. Assumes nothing.
use mathlib.Core.Path.{◌≡◌, refl, ap, ◌∙◌}
use mathlib.Core.List.{List, [], ◌∷◌, append_assoc}
use Prim.Native.Nat.{ℕ, ◌+◌, ◌-◌, ◌≤◌}
use native.Mathlib.Omega.{arith}
use borrow.Rule.Slice.PartMut.{put_mid}
use lib.ListN.{length, set}
use lib.Seq.{sets, sets-eq, drop-drop}
use Rattle.std.specs.Prelude.{Some, None, Ok, Err}
use Rattle.std.proofs.Common.{add-one}
use Rattle.printing.specs.Printing.{Printed, characters, written_at}

-- At most four characters are printed.
pub few : (printed : Printed) → length (characters printed) ≤ 4
few (Ok None) = omega arith
few (Ok (Some frame)) = omega arith
few (Err number) = omega arith

-- One character after the other.
pub written : (at : ℕ) (cs text : List ℕ) → written_at at cs text ≡ sets text at cs
unfolding written_at
written at [] text = refl
written at (c ∷ cs) text = written (at + 1) cs (set text at c) ∙ ap (λ (n : ℕ). sets (set text at c) n cs) (add-one at)

module _ (at : ℕ) (text : List ℕ) (printed : Printed) where
  -- What a function promises that puts them.
  abbrev Puts : ℕ → List ℕ → Type 0
  Puts end after = (end ≡ at + length (characters printed)) × (after ≡ written_at at (characters printed) text)

  pub puts_nothing : printed ≡ Ok None → Puts at text
  unfolding written_at
  puts_nothing e = rw e (omega arith, refl)

-- The n characters of what is printed, over as many.
pub puts : (at n : ℕ) (text part : List ℕ) (printed print : Printed) → printed ≡ print → part ≡ characters print → length (characters print) ≡ n
    → at + n ≤ length text → Puts at text printed (at + n) (put_mid at (at + n - at) text part)
puts at n text part printed print p e k h =
    let size : at + n - at ≡ n = omega arith in
    rw p (
      rw k,
      rw (e, size, written at (characters print) text, sets-eq (characters print) text at (omega (arith, k, h)), k, drop-drop n at text) (simp append_assoc),
    )
