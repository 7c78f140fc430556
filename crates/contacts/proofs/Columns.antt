-- A column, contact by contact: what each turn of the loop over its rows makes of its counts and of its byte. Assumes nothing.
use mathlib.Core.Path.{◌≡◌, refl, sym, ap, ◌∙◌}
use mathlib.Core.Bool.{Bool, true, false}
use mathlib.Core.List.{List}
use Prim.Native.Nat.{ℕ, zero, suc, ◌+◌, ◌*◌, ◌-◌, ◌%◌, ◌^◌, ◌≤◌, ◌<◌}
use native.Mathlib.Nat.{le_antisymm, pow-suc, pow-le-pow_right}
use native.Mathlib.Omega.{arith}
use borrow.Author.Tests.{eq-eqb, ne_eqb}
use lib.Bits.{bit_and, bit_or, bit_xor, and_high, xor_lt}
use lib.Dec.{eqb, ltb}
use lib.ListN.{get_or, set}
use Rattle.basics.specs.Choice.{pick}
use Rattle.contacts.specs.Scans.{contact_in}
use Rattle.contacts.specs.Counts.{next_count, next_closed, packed, renewed, column_counts, column_closed}
use Rattle.contacts.proofs.Pointwise.{next_closed_small}
use Rattle.contacts.proofs.Bytes.{row_xor, row_same, packed_row, packed_up_to_255, packed_rows, packed_same, packed_to, packed_all, packed_more}
use Rattle.contacts.proofs.Renewals.{renewed_more, renewed_later}

-- A row left at its bit: the byte without its other rows.
row_mask : (byte r : ℕ) → r < 8 → bit_and byte (1 * 2 ^ r % 256) ≡ contact_in byte r * 2 ^ r
row_mask byte r h =
    let top : 2 ^ r ≤ 2 ^ 7 = pow-le-pow_right {n = 2} (omega arith) {i = r} {j = 7} (omega arith) in
    let bit : 1 * 2 ^ r % 256 ≡ 2 ^ (1 + r) - 2 ^ r = omega (arith, top, twice) in
    ap (bit_and byte) bit ∙ and_high byte 1 r
  where
    twice : 2 ^ (1 + r) ≡ 2 ^ r * 2
    twice = ap (λ (n : ℕ). 2 ^ n) (omega arith) ∙ pow-suc 2 r

bit_positive : (r : ℕ) → 0 < 2 ^ r
bit_positive zero = omega arith
bit_positive (suc r) = omega (arith, bit_positive r, pow-suc 2 r)

-- A row left at its bit is 0 just where the row is, and turns as the row does.
module _ (row count r : ℕ) (h : row < 2) where
  bit_none : eqb (row * 2 ^ r) 0 ≡ eqb row 0
  bit_none = go row h
    where
      go : (x : ℕ) → x < 2 → eqb (x * 2 ^ r) 0 ≡ eqb x 0
      go zero l = eq-eqb (0 * 2 ^ r) 0 (omega arith)
      go (suc zero) l = ne_eqb (1 * 2 ^ r) 0 (λ e. omega (arith, bit_positive r))
      go (suc (suc x)) l = absurd (omega arith)

  bit_turns : next_closed (row * 2 ^ r) 0 count ≡ next_closed row 0 count * 2 ^ r
  bit_turns = rw bit_none (chosen (eqb row 0) (ltb count 2))
    where
      chosen : (t u : Bool) → pick t 0 (pick u 0 (row * 2 ^ r)) ≡ pick t 0 (pick u 0 row) * 2 ^ r
      chosen true u = omega arith
      chosen false true = omega arith
      chosen false false = refl

-- What counts, turned where it turns, is what counts then.
turned_is : (seen closed count : ℕ) → seen < 2 → closed < 2
    → bit_xor closed (next_closed (bit_xor seen closed) 0 count) ≡ next_closed seen closed count
turned_is seen closed count h l = go seen closed h l (ltb count 2)
  where
    go : (a b : ℕ) → a < 2 → b < 2 → (t : Bool)
        → bit_xor b (pick (eqb (bit_xor a b) 0) 0 (pick t 0 (bit_xor a b))) ≡ pick (eqb a b) b (pick t b a)
    go zero zero u v t = refl
    go zero (suc zero) u v true = refl
    go zero (suc zero) u v false = refl
    go (suc zero) zero u v true = refl
    go (suc zero) zero u v false = refl
    go (suc zero) (suc zero) u v t = refl
    go zero (suc (suc b)) u v t = absurd (omega arith)
    go (suc zero) (suc (suc b)) u v t = absurd (omega arith)
    go (suc (suc a)) b u v t = absurd (omega arith)

module _ (column seen closed : ℕ) (counts : List ℕ) where
  -- The new count of a row, whether it turns, and its new contact.
  abbrev pub row_count : ℕ → ℕ → ℕ
  row_count row count = next_count (contact_in seen row) (contact_in closed row) count

  abbrev pub row_turns : ℕ → ℕ
  row_turns row = next_closed (contact_in (bit_xor seen closed) row) 0 (get_or counts (8 * column + row) 0)

  abbrev row_closed : ℕ → ℕ
  row_closed row = next_closed (contact_in seen row) (contact_in closed row) (get_or counts (8 * column + row) 0)

  small : (row : ℕ) → row_turns row < 2
  small row = next_closed_small (contact_in (bit_xor seen closed) row) 0 (get_or counts (8 * column + row) 0) (omega arith) (omega arith)

  module _ (l : List ℕ) (r : ℕ) (i : l ≡ renewed row_count (8 * column) r counts) where
    module _ (b : r < 8) where
      otherwise : bit_and (bit_xor seen closed) (1 * 2 ^ r % 256) ≡ contact_in (bit_xor seen closed) r * 2 ^ r
      otherwise = row_mask (bit_xor seen closed) r b

      pub row_counts : (m : ℕ) → m ≡ next_count (bit_and (bit_xor seen closed) (1 * 2 ^ r % 256)) 0 (get_or l (8 * column + r) 0)
          → set l (8 * column + r) m ≡ renewed row_count (8 * column) (r + 1) counts
      row_counts m e =
          let n = get_or l (8 * column + r) 0 in
          let test = bit_none (contact_in (bit_xor seen closed) r) n r (omega arith) ∙ row_same seen closed r in
          renewed_more row_count (8 * column) r counts l m i
          (e ∙ ap (λ (x : ℕ). next_count x 0 n) otherwise ∙ ap (λ (t : Bool). pick t 0 (pick (ltb n 2) (n + 1) 0)) test)

      module _ (turned v : ℕ) (j : turned ≡ packed_to r row_turns)
          (e : v ≡ next_closed (bit_and (bit_xor seen closed) (1 * 2 ^ r % 256)) 0 (get_or l (8 * column + r) 0)) where
        was : v ≡ row_turns r * 2 ^ r
        was =
            let n = get_or l (8 * column + r) 0 in
            e ∙ ap (λ (x : ℕ). next_closed x 0 n) otherwise ∙ bit_turns (contact_in (bit_xor seen closed) r) n r (omega arith)
            ∙ ap (λ (count : ℕ). next_closed (contact_in (bit_xor seen closed) r) 0 count * 2 ^ r)
            (ap (λ (x : List ℕ). get_or x (8 * column + r) 0) i ∙ renewed_later row_count (8 * column) r counts (8 * column + r) (omega arith))

        pub row_turns_lem : bit_or turned v ≡ packed_to (r + 1) row_turns
        row_turns_lem = rw was (packed_more row_turns small r turned j)

    module _ (a : r ≤ 8) (b : 8 ≤ r) where
      pub all_counts : l ≡ column_counts column seen closed counts
      all_counts = i ∙ ap (λ (n : ℕ). renewed row_count (8 * column) n counts) (le_antisymm a b)

      pub all_closed : seen < 256 → closed < 256 → (turned : ℕ) → turned ≡ packed_to r row_turns
          → bit_xor closed turned ≡ column_closed column seen closed counts
      all_closed u v turned j =
          ap (bit_xor closed) (j ∙ ap (λ (n : ℕ). packed_to n row_turns) (le_antisymm a b) ∙ packed_all row_turns)
          ∙ sym (packed_rows (bit_xor closed all) (xor_lt 8 closed all v (omega (arith, packed_up_to_255 row_turns small))))
          ∙ packed_same (contact_in (bit_xor closed all)) row_closed each
        where
          all : ℕ
          all = packed row_turns

          each : (row : ℕ) → row < 8 → contact_in (bit_xor closed all) row ≡ row_closed row
          each row h =
              row_xor closed all row
              ∙ ap (bit_xor (contact_in closed row)) (packed_row row_turns small row h
              ∙ ap (λ (x : ℕ). next_closed x 0 (get_or counts (8 * column + row) 0)) (row_xor seen closed row))
              ∙ turned_is (contact_in seen row) (contact_in closed row) (get_or counts (8 * column + row) 0) (omega arith) (omega arith)
