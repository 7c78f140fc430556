-- The dock goes by the rules as the onlooker knows them: its phantom test, the commands that wait for a value, the values that are right,
-- and the set are his. Assumes nothing.
use mathlib.Core.Path.{◌≡◌, refl, sym, ap, ◌∙◌}
use mathlib.Core.Bool.{Bool, true, false, not}
use mathlib.Core.Logic.{dite}
use mathlib.Core.List.{List, [], ◌∷◌, map}
use Prim.Native.Nat.{ℕ, zero, suc, ◌+◌, ◌*◌, ◌-◌, ◌/◌, ◌%◌, ◌^◌, ◌≤◌, ◌<◌}
use native.Mathlib.Decide.{ℕ_discrete}
use native.Mathlib.Nat.{zero-add}
use native.Mathlib.Omega.{arith}
use borrow.Author.Tests.{eq-eqb, ne_eqb, le-leb}
use lib.Bits.{bit_and, and_shr, and_mod, and_lt}
use lib.Count.{ones, ones_in}
use lib.Dec.{T, eqb, leb}
use lib.ListN.{take, drop}
use Rattle.basics.specs.Choice.{pick, both, either, between}
use Rattle.basics.proofs.Cases.{two_by_cases}
use Rattle.basics.proofs.Tables.{values_below, alike_below, both_right}
use Rattle.std.specs.Prelude.{Option, Some, None}
use Rattle.host.specs.declared.values.Asked.{Asked}
use Rattle.host.specs.declared.values.Asked.TheVariants.{Indicators, Set, WhichSet, Rate, KeyType}
use Rattle.host.specs.Values.{asked_of, is_right}
use Rattle.keys.specs.Keys.{Row, rows}
use Rattle.lookup.specs.Lookup.{first_with, key_with}
use Rattle.phantom.specs.Phantom.{shares_any, is_phantom}
use Rattle.range.specs.Range.{takes_value}
use Rattle.dock.specs.Calls.{as_bytes}
use Rattle.runs.specs.Rules.{one_of, numbers_from, closed_in, in_common, shares_two, looks_phantom, set_three_codes, sets, values_for, waits_for_value}

-- A row that is closed in both of two columns is closed in what they have in common.
row_and : (x y row : ℕ) → closed_in (bit_and x y) row ≡ closed_in x row * closed_in y row
row_and x y row =
    ap (λ (n : ℕ). n % 2) (and_shr x y row) ∙ and_mod (x / 2 ^ row) (y / 2 ^ row) 1 ∙ bits (closed_in x row) (closed_in y row) (omega arith) (omega arith)
  where
    bits : (a b : ℕ) → a < 2 → b < 2 → bit_and a b ≡ a * b
    bits zero zero h l = refl
    bits zero (suc zero) h l = refl
    bits (suc zero) zero h l = refl
    bits (suc zero) (suc zero) h l = refl
    bits zero (suc (suc b)) h l = absurd (omega arith)
    bits (suc zero) (suc (suc b)) h l = absurd (omega arith)
    bits (suc (suc a)) b h l = absurd (omega arith)

-- The closed ones of the first n rows.
unfoldable closed_rows : ℕ → ℕ → ℕ
closed_rows zero column = 0
closed_rows (suc row) column = closed_rows row column + closed_in column row

common_rows : (n x y : ℕ) → in_common n x y ≡ closed_rows n (bit_and x y)
unfolding in_common closed_rows
common_rows zero x y = refl
common_rows (suc row) x y = grind (arith, common_rows row x y, row_and)

-- Eight rows are all that a byte has: computed over the 256 of them.
all_rows : values_below (closed_rows 8) 256 ≡ values_below ones 256
unfolding closed_rows ones ones_in
all_rows = refl

common_ones : (x y : ℕ) → x < 256 → y < 256 → in_common 8 x y ≡ ones (bit_and x y)
common_ones x y h l = common_rows 8 x y ∙ alike_below (closed_rows 8) ones 256 all_rows (bit_and x y) (and_lt 8 x y h l)

shares_same : (x : ℕ) (scan : List ℕ) → x < 256 → shares_two x (as_bytes scan) ≡ shares_any x (as_bytes scan)
unfolding shares_two shares_any
shares_same x [] h = refl
shares_same x (y ∷ ys) h = grind (arith, shares_same x ys h, common_ones)

pub phantom_same : (scan : List ℕ) → looks_phantom (as_bytes scan) ≡ is_phantom (as_bytes scan)
unfolding looks_phantom is_phantom
phantom_same [] = refl
phantom_same (x ∷ xs) = grind (arith, phantom_same xs, shares_same)

-- A number is one of n from a first one on if it is in their range, and else it is none.
in_numbers : (x n first : ℕ) → first ≤ x → x < first + n → one_of x (numbers_from first n) ≡ true
unfolding one_of numbers_from
in_numbers x zero first low high = absurd (omega arith)
in_numbers x (suc n) first low high = go (ℕ_discrete x first) (λ h. in_numbers x n (suc first) h (omega arith))
  where
    go : Dec (x ≡ first) → (suc first ≤ x → one_of x (numbers_from (suc first) n) ≡ true)
        → either (eqb x first) (one_of x (numbers_from (suc first) n)) ≡ true
    go (yes e) later = rw (eq-eqb x first e)
    go (no e) later = rw (ne_eqb x first e) (later (omega arith))

not_below : (x n first : ℕ) → x < first → one_of x (numbers_from first n) ≡ false
unfolding one_of numbers_from
not_below x zero first low = refl
not_below x (suc n) first low = grind (arith, not_below x n (suc first) (omega arith))

not_above : (x n first : ℕ) → first + n ≤ x → one_of x (numbers_from first n) ≡ false
unfolding one_of numbers_from
not_above x zero first high = refl
not_above x (suc n) first high = grind (arith, not_above x n (suc first) (omega arith))

among_numbers : (x n first : ℕ) → one_of x (numbers_from first (suc n)) ≡ between first (first + n) x
among_numbers x n first = grind (arith, in_numbers, not_above, not_below)

-- The commands that wait for a value.
pub waits_same : (byte : ℕ) → waits_for_value byte ≡ takes_value byte
unfolding waits_for_value one_of
waits_same byte = grind (arith, among_numbers)

-- None of these rows has a code in set 3, and so none is found there for a code.
unfoldable uncoded : List Row → Bool
uncoded [] = true
uncoded (r ∷ rs) = both (eqb r.2 0) (uncoded rs)

none_found : (value : ℕ) → (value ≡ 0 → ⊥) → (rs : List Row) (key : ℕ) → T (uncoded rs) → first_with 3 value key rs ≡ 0
unfolding uncoded first_with
none_found value some [] key t = refl
none_found value some (r ∷ rs) key t = grind (arith, none_found value some rs (suc key) (both_right (eqb r.2 0) (uncoded rs) t))

-- The codes of set 3 are those that some key has: the first n rows are those with a code.
codes_same : (value : ℕ) → (value ≡ 0 → ⊥) → (n : ℕ) (rs : List Row) (key : ℕ) → T (uncoded (drop n rs))
    → one_of value (map (λ (r : Row). r.2) (take n rs)) ≡ not (eqb (first_with 3 value (suc key) rs) 0)
unfolding one_of first_with
codes_same value some zero rs key t = grind (arith, none_found)
codes_same value some (suc n) [] key t = refl
codes_same value some (suc n) (r ∷ rs) key t = grind (arith, codes_same value some n rs (suc key) t)

media_uncoded : T (uncoded (drop 104 rows))
unfolding uncoded rows
media_uncoded = tt

zero_no_code : one_of 0 (map (λ (r : Row). r.2) (take 104 rows)) ≡ false
unfolding one_of rows
zero_no_code = refl

three_same : (value : ℕ) → one_of value set_three_codes ≡ not (eqb (key_with 3 value) 0)
unfolding set_three_codes key_with
three_same value =
    dite (ℕ_discrete value 0) (λ e. rw e zero_no_code)
    (λ some. rw (ne_eqb value 0 some) (codes_same value some 104 rows 0 media_uncoded))

among_none : (value : ℕ) → one_of value [] ≡ false
unfolding one_of
among_none value = refl

-- The sets.
pub sets_same : (value : ℕ) → one_of value sets ≡ between 1 3 value
unfolding sets
sets_same value = among_numbers value 2 1

-- The values that are right.
pub right_same : (command value : ℕ) → one_of value (values_for command) ≡ is_right (asked_of command value)
unfolding values_for asked_of one_of
right_same command value =
    let Right : List ℕ → Option Asked → Type 0 = λ (l : List ℕ) (asked : Option Asked). one_of value l ≡ is_right asked in
    two_by_cases Right (eqb command 0xed) _ _ _ _ (λ h. up_to 7 ∙ sym (right_if (leb value 7) (Indicators value)))
    (λ h. two_by_cases Right (eqb command 0xf0) _ _ _ _ (λ h. a_set)
    (λ h. two_by_cases Right (eqb command 0xf3) _ _ _ _ (λ h. up_to 127 ∙ sym (right_if (leb value 127) (Rate value)))
    (λ h. rw (among_numbers command 2 0xfb) (two_by_cases Right (between 0xfb 0xfd command) _ _ _ _ (λ h. a_code) (λ h. among_none value)))))
  where
    up_to : (n : ℕ) → one_of value (numbers_from 0 (suc n)) ≡ leb value n
    up_to n = among_numbers value n 0 ∙ rw (le-leb 0 value (omega arith), zero-add n)

    right_if : (b : Bool) (asked : Asked) → is_right (pick b (Some asked) None) ≡ b
    right_if true asked = refl
    right_if false asked = refl

    a_set : one_of value (0 ∷ sets) ≡ is_right (pick (between 1 3 value) (Some (Set value)) (pick (eqb value 0) (Some WhichSet) None))
    a_set = rw (sets_same value) (go (eqb value 0) (between 1 3 value))
      where
        go : (zero one : Bool) → either zero one ≡ is_right (pick one (Some (Set value)) (pick zero (Some WhichSet) None))
        go true true = refl
        go true false = refl
        go false true = refl
        go false false = refl

    a_code : one_of value set_three_codes ≡ is_right (pick (eqb (key_with 3 value) 0) None (Some (KeyType (key_with 3 value) (command - 0xfb))))
    a_code = three_same value ∙ go (eqb (key_with 3 value) 0)
      where
        go : (none : Bool) → not none ≡ is_right (pick none None (Some (KeyType (key_with 3 value) (command - 0xfb))))
        go true = refl
        go false = refl
