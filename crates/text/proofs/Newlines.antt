-- Where a line ends: the search for the first newline, the test that none stands among some characters, and the test of a length.
-- Assumes nothing.
use mathlib.Core.Path.{◌≡◌, refl, sym, ap, ◌∙◌}
use mathlib.Core.Bool.{Bool, true, false, not, ◌||◌}
use mathlib.Core.List.{List, [], ◌∷◌}
use Prim.Native.Nat.{ℕ, zero, suc, ◌+◌, ◌≤◌, ◌<◌}
use native.Mathlib.Nat.{add-zero, add-suc}
use native.Mathlib.Numerals.{add-one}
use native.Mathlib.Omega.{arith}
use borrow.Author.Tests.{eq-eqb, ne_eqb, eqb-true, eqb-false, ltb-true, ltb-false, not-true}
use lib.Dec.{eqb, ltb}
use lib.ListN.{length, get_or, drop, length-drop, get_or-eq_default}
use lib.Seq.{drop-cons}
use Rattle.std.specs.Prelude.{Option, Some, None, ◌==◌, cond, nat_lt}
use Rattle.std.specs.List.{between, position, position_or_len}
use Rattle.std.proofs.lemmas.List.Edits.{get_or-between, length-between}
use Rattle.basics.specs.Choice.{pick, either}
use Rattle.basics.proofs.Cases.{picked, neither_first, neither_second}
use Rattle.basics.proofs.Flags.{left_of_both, right_of_both}
use Rattle.text.specs.Lines.{newline_among, ends_after, line_length, line_end}

line_length_within : (l : List ℕ) → line_length l ≤ length l
unfolding line_length
line_length_within [] = omega arith
line_length_within (c ∷ cs) =
    picked (λ (n : ℕ). n ≤ suc (length cs)) (eqb c 10) 0 (suc (line_length cs)) (omega arith) (omega (arith, line_length_within cs))

-- A line ends where it begins or later,
pub line_end_after : (text : List ℕ) (at : ℕ) → at ≤ line_end text at
unfolding line_end
line_end_after text at = omega arith

-- and not past the text's end.
pub line_end_within : (text : List ℕ) (at : ℕ) → at ≤ length text → line_end text at ≤ length text
unfolding line_end
line_end_within text at h = omega (arith, line_length_within (drop at text), length-drop at text)

module _ (text : List ℕ) (at : ℕ) where
  -- At a newline the line ends,
  line_end_here : at < length text → get_or text at 0 ≡ 10 → line_end text at ≡ at
  unfolding line_end line_length
  line_end_here h e = rw (drop-cons text at 0, eq-eqb (get_or text at 0) 10 e, add-zero)

  -- and at another character where it does from the next place on.
  line_end_past : at < length text → (get_or text at 0 ≡ 10 → ⊥) → line_end text at ≡ line_end text (at + 1)
  unfolding line_end line_length
  line_end_past h n = rw (drop-cons text at 0, ne_eqb (get_or text at 0) 10 n, add-one) (omega arith)

pub among_none : (text : List ℕ) (at : ℕ) → false ≡ newline_among text at 0
unfolding newline_among
among_none text at = refl

-- The test: found says whether a newline stands among the first i of the n characters from the place on.
module _ (text : List ℕ) (at n i : ℕ) (found : Bool) (k : found ≡ newline_among text at i) (h : at + n ≤ length text) where
  pub among_more : i < length (between at (at + n) text) → (found || eqb (get_or (between at (at + n) text) i 0) 10) ≡ newline_among text at (i + 1)
  unfolding newline_among
  among_more b =
      let here : get_or (between at (at + n) text) i 0 ≡ get_or text (at + i) 0 =
      get_or-between text at (at + n) i 0 (omega (arith, length-between text at (at + n) h)) in
      rw (add-one, here, ← k) (raised found (eqb (get_or text (at + i) 0) 10))
    where
      raised : (x y : Bool) → (x || y) ≡ either x y
      raised true y = refl
      raised false y = refl

  pub among_end : i ≤ length (between at (at + n) text) → length (between at (at + n) text) ≤ i → found ≡ newline_among text at n
  among_end a b = k ∙ ap (newline_among text at) (omega (arith, length-between text at (at + n) h))

-- Where no newline stands among n characters, the line ends where it does from the next place on.
among_past : (text : List ℕ) (at n : ℕ) → at + n ≤ length text → newline_among text at n ≡ false → line_end text at ≡ line_end text (at + n)
unfolding newline_among
among_past text at zero h e = rw add-zero
among_past text at (suc n) h e =
    rw (add-suc, ← add-one)
    (among_past text at n (omega arith) (neither_first (newline_among text at n) (eqb (get_or text (at + n) 0) 10) e)
    ∙ line_end_past text (at + n) (omega arith) (eqb-false _ _ (neither_second (newline_among text at n) (eqb (get_or text (at + n) 0) 10) e)))

-- The test of a length. The line does not end after n characters where the text has no more,
module _ (text : List ℕ) (at n : ℕ) where
  pub ends_past : length text ≤ at + n → false ≡ ends_after text at n
  unfolding ends_after
  ends_past h = rw (get_or-eq_default text 0 h)

  -- nor where another character comes next;
  pub ends_not : (get_or text (at + n) 0 ≡ 10 → ⊥) → false ≡ ends_after text at n
  unfolding ends_after
  ends_not k = rw (ne_eqb (get_or text (at + n) 0) 10 k)

  -- and at a newline it does if there is none before.
  pub ends_newline : get_or text (at + n) 0 ≡ 10 → (found : Bool) → found ≡ newline_among text at n → not found ≡ ends_after text at n
  unfolding ends_after
  ends_newline e found k = rw (eq-eqb (get_or text (at + n) 0) 10 e, k)

  -- Where the test holds, that is the line's end: the newline is no 0, so it stands in the text.
  pub ends_there : ends_after text at n ≡ true → at + n ≡ line_end text at
  unfolding ends_after
  ends_there e =
      sym (among_past text at n (omega (arith, inside)) none ∙ line_end_here text (at + n) inside newline)
    where
      newline : get_or text (at + n) 0 ≡ 10
      newline = eqb-true _ _ (left_of_both (eqb (get_or text (at + n) 0) 10) (not (newline_among text at n)) e)

      none : newline_among text at n ≡ false
      none = not-true (newline_among text at n) (right_of_both (eqb (get_or text (at + n) 0) 10) (not (newline_among text at n)) e)

      inside : at + n < length text
      inside = go (ltb (at + n) (length text)) refl
        where
          go : (t : Bool) → ltb (at + n) (length text) ≡ t → at + n < length text
          go true f = ltb-true _ _ f
          go false f = absurd (omega (arith, sym newline ∙ get_or-eq_default text 0 (ltb-false _ _ f)))

-- The search: the characters before the first newline are as many as it finds, or all.
line_length_position : (l : List ℕ) → line_length l ≡ position_or_len (λ c. c == 10) l
unfolding line_length
line_length_position [] = refl
line_length_position (c ∷ cs) = go (eqb c 10) (line_length_position cs)
  where
    go : (t : Bool) → line_length cs ≡ position_or_len (λ x. x == 10) cs
        → pick t 0 (suc (line_length cs)) ≡ cond (not t) (1 + position_or_len (λ x. x == 10) cs) 0
    go true e = refl
    go false e = omega arith

module _ (text : List ℕ) (at : ℕ) (rest : List ℕ) (r : Option ℕ) (s : rest ≡ drop at text) (e : r ≡ position (λ c. c == 10) rest) where
  chosen : r ≡ cond (nat_lt (line_length (drop at text)) (length (drop at text))) (Some (line_length (drop at text))) None
  chosen = e ∙ rw (s, ← line_length_position (drop at text))

  pub found_at : (n : ℕ) → r ≡ Some n → at + n ≡ line_end text at
  unfolding line_end
  found_at n f = go (nat_lt (line_length (drop at text)) (length (drop at text))) (sym chosen ∙ f)
    where
      go : (t : Bool) → cond t (Some (line_length (drop at text))) None ≡ Some n → at + n ≡ at + line_length (drop at text)
      go true g = let same : line_length (drop at text) ≡ n = cc in rw same
      go false g = cc

  pub found_none : at ≤ length text → r ≡ None → length text ≡ line_end text at
  unfolding line_end
  found_none h f = go (nat_lt (line_length (drop at text)) (length (drop at text))) refl (sym chosen ∙ f)
    where
      go : (t : Bool) → nat_lt (line_length (drop at text)) (length (drop at text)) ≡ t → cond t (Some (line_length (drop at text))) None ≡ None
          → length text ≡ at + line_length (drop at text)
      go true u g = cc
      go false u g = omega (arith, ltb-false _ _ u, line_length_within (drop at text), length-drop at text)
