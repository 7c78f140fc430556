-- The record while contacts that turned are gone through: of it only the keys change. Assumes nothing.
use mathlib.Core.Path.{◌≡◌, refl, ap, ◌∙◌}
use mathlib.Core.Bool.{true}
use mathlib.Core.List.{List}
use Prim.Native.Nat.{ℕ, ◌+◌, ◌*◌, ◌-◌, ◌≤◌, ◌<◌}
use lib.Bits.{bit_and, bit_xor}
use lib.Count.{count_trailing_zeros}
use lib.ListN.{get_or}
use Rattle.basics.specs.Lists.{all_up_to}
use Rattle.basics.proofs.Limits.{up_to_at}
use Rattle.keys.specs.Keys.{last_key}
use Rattle.contacts.specs.Scans.{contact_in}
use Rattle.record.specs.declared.Dock.{Dock}
use Rattle.record.specs.Views.{Keys, keys_of}
use Rattle.record.specs.Parts.{with_keys}
use Rattle.range.specs.Range.{good_keys, good_mode}
use Rattle.keying.specs.Changes.{moved, turns_to, rows_to}
use Rattle.keying.specs.Ready.{Ready}
use Rattle.keying.proofs.Good.{moved_good, turns_good}
use Rattle.changes.proofs.Rows.{turns_none, column_stays, column_turns}
use Rattle.changes.proofs.TurnedRows.{rows_in, on_rows, rows_are, row_moved, rows_done}

-- These rows of a column are left, whose byte was `was` and is `is`.
pub record Turning (d : Dock) (c was is left : ℕ) (e : Dock) : Type 0 where
  pub good : good_keys (keys_of e) ≡ true
  pub only : e ≡ with_keys d (keys_of e)
  pub rest : rows_to 8 d.rest.mode d.types d.map c was is (keys_of d) ≡ on_rows (rows_in left) e.rest.mode e.types e.map c is (keys_of e)

-- The columns below this one are gone through.
unfoldable pub columns_to : Dock → List ℕ → ℕ → Dock
columns_to d was c = with_keys d (turns_to (8 * c) d.rest.mode d.types d.map was d.closed (keys_of d))

pub columns_none : (d : Dock) (was : List ℕ) → d ≡ columns_to d was 0
unfolding columns_to
columns_none d was = ap (with_keys d) (turns_none d.rest.mode d.types d.map was d.closed (keys_of d))

module _ (d : Dock) (ready : Ready d) (entries : all_up_to last_key d.map ≡ true) where
  -- A record with other keys is ready if these are, and its map is the same.
  module _ (e : Dock) (only : e ≡ with_keys d (keys_of e)) where
    pub still_ready : good_keys (keys_of e) ≡ true → Ready e
    still_ready g = record { keys = g; mode = ap (λ (x : Dock). good_mode x.rest.mode) only ∙ ready.mode }

    pub entry_small : (position : ℕ) → get_or e.map position 0 ≤ last_key
    entry_small position = up_to_at last_key e.map position (ap (λ (x : Dock). all_up_to last_key x.map) only ∙ entries)

  module _ (c was is : ℕ) where
    pub rows_begin : Turning d c was is (bit_xor was is) d
    rows_begin = record { good = ready.keys; only = refl; rest = rows_are d.rest.mode d.types d.map c is was (keys_of d) }

    module _ (left : ℕ) (e : Dock) (t : Turning d c was is left e) where
      pub row_turns : 0 < left → left < 256 → (after : Dock)
          → after ≡ with_keys e (moved (keys_of e) e.rest.mode e.types (get_or e.map (8 * c + count_trailing_zeros 32 left) 0) (contact_in is (count_trailing_zeros 32 left)))
          → Turning d c was is (bit_and left (left - 1)) after
      row_turns some small after f =
          let key = get_or e.map (8 * c + count_trailing_zeros 32 left) 0 in
          let closed = contact_in is (count_trailing_zeros 32 left) in
          let k = moved (keys_of e) e.rest.mode e.types key closed in
          let going : Turning d c was is (bit_and left (left - 1)) (with_keys e k) = record {
            good = moved_good e.rest.mode (still_ready e t.only t.good).mode e.types key closed (entry_small e t.only _) (keys_of e) t.good;
            only = ap (λ (x : Dock). with_keys x k) t.only;
            rest = row_moved e.rest.mode e.types e.map c is _ (keys_of e) left t.rest some small k refl;
          } in
          rw f going

      pub rows_end : left ≡ 0 → e ≡ with_keys d (rows_to 8 d.rest.mode d.types d.map c was is (keys_of d))
      rows_end z = t.only ∙ ap (with_keys d) (rows_done e.rest.mode e.types e.map c is _ (keys_of e) left t.rest z)

  module _ (was : List ℕ) where
    module _ (c : ℕ) (e : Dock) (i : e ≡ columns_to d was c) where
      k : Keys
      k = turns_to (8 * c) d.rest.mode d.types d.map was d.closed (keys_of d)

      pub ready_to : Ready e
      unfolding columns_to
      ready_to =
          let good = turns_good d.rest.mode ready.mode d.types d.map entries (8 * c) was d.closed (keys_of d) ready.keys in
          rw i (record { keys = good; mode = ready.mode })

      pub entries_to : all_up_to last_key e.map ≡ true
      unfolding columns_to
      entries_to = rw i entries

      pub column_left : (after : Dock) → get_or was c 0 ≡ get_or e.closed c 0 → after ≡ e → after ≡ columns_to d was (c + 1)
      unfolding columns_to k
      column_left after same f =
          f ∙ i
          ∙ ap (with_keys d)
          (column_stays d.rest.mode d.types d.map was d.closed (keys_of d) c k refl k (same ∙ ap (λ (x : Dock). get_or x.closed c 0) i) refl)

      pub column_turned : (after : Dock)
          → after ≡ with_keys e (rows_to 8 e.rest.mode e.types e.map c (get_or was c 0) (get_or e.closed c 0) (keys_of e)) → after ≡ columns_to d was (c + 1)
      unfolding columns_to k
      column_turned after f =
          f
          ∙ ap (λ (x : Dock). with_keys x (rows_to 8 x.rest.mode x.types x.map c (get_or was c 0) (get_or x.closed c 0) (keys_of x))) i
          ∙ ap (with_keys d) (column_turns d.rest.mode d.types d.map was d.closed (keys_of d) c k refl _ refl)

      pub columns_all : c ≡ 18 → e ≡ with_keys d (turns_to 144 d.rest.mode d.types d.map was d.closed (keys_of d))
      unfolding columns_to
      columns_all z = rw z at i
