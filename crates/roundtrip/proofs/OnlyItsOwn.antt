-- A key is found only in its own code: bytes that belong to no sequence give no key, whatever the state. Assumes nothing.
use mathlib.Core.Path.{◌≡◌, refl, sym, subst}
use mathlib.Core.Bool.{Bool, true, false, not}
use mathlib.Core.Logic.{◌⊎◌, inl, inr}
use mathlib.Core.List.{List, [], ◌∷◌, ◌++◌}
use Prim.Native.Nat.{ℕ, ◌<◌, ◌≤◌}
use native.Mathlib.Omega.{arith}
use lib.Dec.{T, eqb, leb, leb→le}
use Rattle.basics.specs.Choice.{both, either, between}
use Rattle.basics.specs.Lists.{same}
use Rattle.basics.proofs.Tables.{all_below, below, passed, both_left, both_right}
use Rattle.basics.proofs.Cases.{one_to_three}
use Rattle.basics.proofs.Sameness.{same_is}
use Rattle.keys.specs.Keys.{rows, row_of, code_in, last_key}
use Rattle.lookup.specs.Lookup.{key_with, first_with}
use Rattle.codes.specs.declared.Form.TheVariants.{Plain, Other}
use Rattle.codes.specs.Codes.{make_of, break_of, prefix, has_code, code_of, pause_bytes}
use Rattle.reader.specs.declared.Event.{Event}
use Rattle.reader.specs.declared.Event.TheVariants.{More, Pressed, Released, PauseStruck, Wrapping, Overrun, Unknown}
use Rattle.reader.specs.States.{beginnings, seen}
use Rattle.reader.specs.Reader.{read_byte, in_set1, in_set2, in_set3, heard}
use Rattle.roundtrip.specs.OwnCode.{GoesDown, ComesUp, StrikesPause}

-- A number and a list that pass these tests are a key and its code in a set.
is_code : ℕ → ℕ → List ℕ → List ℕ → List ℕ → Bool
is_code set key bytes plain other =
    both (both (between 1 last_key key) (has_code set key)) (either (same bytes plain) (both (not (eqb set 3)) (same bytes other)))

-- A list that passes these tests says in a set that PAUSE was struck.
is_pause : ℕ → List ℕ → Bool
is_pause set bytes = both (not (eqb set 3)) (either (same bytes (pause_bytes set Plain)) (same bytes (make_of (code_of set 101 Plain))))

-- What an answer may say of all the bytes read so far.
right : ℕ → List ℕ → ℕ → Event → Bool
right set bytes next More = same bytes (seen next)
right set bytes next (Pressed key) =
    both (eqb next 0) (is_code set key bytes (make_of (code_of set key Plain)) (make_of (code_of set key Other)))
right set bytes next (Released key) =
    both (eqb next 0) (is_code set key bytes (break_of set (code_of set key Plain)) (break_of set (code_of set key Other)))
right set bytes next PauseStruck = both (eqb next 0) (is_pause set bytes)
right set bytes next Wrapping = eqb next 0
right set bytes next Overrun = eqb next 0
right set bytes next Unknown = eqb next 0

right_at : ℕ → ℕ → ℕ → Bool
right_at set state byte =
    both (leb (read_byte set state byte).state 14)
    (right set (seen state ++ byte ∷ []) (read_byte set state byte).state (read_byte set state byte).event)

everywhere : ℕ → Bool
everywhere set = all_below (λ state. all_below (right_at set state) 256) 15

in_set_1 : T (everywhere 1)
unfolding everywhere right_at right is_code is_pause pause_bytes same beginnings seen rows row_of code_in key_with first_with make_of break_of prefix code_of read_byte in_set1 heard
in_set_1 = tt

in_set_2 : T (everywhere 2)
unfolding everywhere right_at right is_code is_pause pause_bytes same beginnings seen rows row_of code_in key_with first_with make_of break_of prefix code_of read_byte in_set2 heard
in_set_2 = tt

in_set_3 : T (everywhere 3)
unfolding everywhere right_at right is_code is_pause pause_bytes same beginnings seen rows row_of code_in key_with first_with make_of break_of prefix code_of read_byte in_set3
in_set_3 = tt

at : (set state byte : ℕ) → 1 ≤ set → set ≤ 3 → state ≤ 14 → byte < 256 → T (right_at set state byte)
unfolding everywhere
at set state byte low high s b =
    one_to_three (λ (n : ℕ). T (right_at n state byte)) (from 1 in_set_1) (from 2 in_set_2) (from 3 in_set_3) set low high
  where
    from : (n : ℕ) → T (everywhere n) → T (right_at n state byte)
    from n t = below (right_at n state) 256 (below (λ st. all_below (right_at n st) 256) 15 t state (omega arith)) byte b

-- A test that a set is not 3, passed.
not_3 : (set : ℕ) → T (not (eqb set 3)) → set ≡ 3 → ⊥
not_3 set t third = subst (λ (n : ℕ). T (not (eqb n 3))) third t

-- One of two lists.
one_of : (bytes plain other : List ℕ) → T (either (same bytes plain) (same bytes other)) → (bytes ≡ plain) ⊎ (bytes ≡ other)
one_of bytes plain other t = go (same bytes plain) refl t
  where
    go : (b : Bool) → same bytes plain ≡ b → T (either b (same bytes other)) → (bytes ≡ plain) ⊎ (bytes ≡ other)
    go true e h = inl (same_is bytes plain e)
    go false e h = inr (same_is bytes other (passed (same bytes other) h))

code_of_lem : (set key : ℕ) (bytes plain other : List ℕ) → T (is_code set key bytes plain other)
    → (1 ≤ key) × (key ≤ last_key) × (has_code set key ≡ true) × ((bytes ≡ plain) ⊎ ((set ≡ 3 → ⊥) × (bytes ≡ other)))
unfolding is_code
code_of_lem set key bytes plain other t = (
  leb→le 1 key (both_left (leb 1 key) (leb key last_key) range),
  leb→le key last_key (both_right (leb 1 key) (leb key last_key) range),
  passed (has_code set key) (both_right (between 1 last_key key) (has_code set key) coded),
  go (same bytes plain) refl (both_right (both (between 1 last_key key) (has_code set key)) (either (same bytes plain) by_other) t),
)
  where
    by_other : Bool
    by_other = both (not (eqb set 3)) (same bytes other)

    coded : T (both (between 1 last_key key) (has_code set key))
    coded = both_left (both (between 1 last_key key) (has_code set key)) (either (same bytes plain) by_other) t

    range : T (between 1 last_key key)
    range = both_left (between 1 last_key key) (has_code set key) coded

    go : (b : Bool) → same bytes plain ≡ b → T (either b by_other) → (bytes ≡ plain) ⊎ ((set ≡ 3 → ⊥) × (bytes ≡ other))
    go true e h = inl (same_is bytes plain e)
    go false e h =
        inr (
          not_3 set (both_left (not (eqb set 3)) (same bytes other) h),
          same_is bytes other (passed (same bytes other) (both_right (not (eqb set 3)) (same bytes other) h)),
        )

module _ (set state byte : ℕ) (low : 1 ≤ set) (high : set ≤ 3) (s : state ≤ 14) (b : byte < 256) where
  told : (event : Event) → (read_byte set state byte).event ≡ event → T (right set (seen state ++ byte ∷ []) (read_byte set state byte).state event)
  unfolding right_at
  told event e = rw e at (both_right (leb (read_byte set state byte).state 14) _ (at set state byte low high s b))

  -- The next state is one of the fifteen.
  pub next_is_a_state : (read_byte set state byte).state ≤ 14
  unfolding right_at
  next_is_a_state = leb→le (read_byte set state byte).state 14 (both_left (leb (read_byte set state byte).state 14) _ (at set state byte low high s b))

  -- A press is answered only at the last byte of the key's own code.
  pub pressed_by_its_code : (key : ℕ) → (read_byte set state byte).event ≡ Pressed key → GoesDown set key (seen state ++ byte ∷ [])
  unfolding right
  pressed_by_its_code key e =
      let t = code_of_lem set key (seen state ++ byte ∷ []) (make_of (code_of set key Plain)) (make_of (code_of set key Other))
      (both_right (eqb (read_byte set state byte).state 0) _ (told (Pressed key) e)) in
      record { low = t.0; high = t.1; coded = t.2; code = t.3 }

  -- So is a release.
  pub released_by_its_code : (key : ℕ) → (read_byte set state byte).event ≡ Released key → ComesUp set key (seen state ++ byte ∷ [])
  unfolding right
  released_by_its_code key e =
      let t = code_of_lem set key (seen state ++ byte ∷ []) (break_of set (code_of set key Plain)) (break_of set (code_of set key Other))
      (both_right (eqb (read_byte set state byte).state 0) _ (told (Released key) e)) in
      record { low = t.0; high = t.1; coded = t.2; code = t.3 }

  -- PAUSE is struck only at the end of its own bytes.
  pub paused_by_its_code : (read_byte set state byte).event ≡ PauseStruck → StrikesPause set (seen state ++ byte ∷ [])
  unfolding right is_pause
  paused_by_its_code e =
      let bytes = seen state ++ byte ∷ [] in
      let plain = pause_bytes set Plain in
      let ctrl = make_of (code_of set 101 Plain) in
      let t = both_right (eqb (read_byte set state byte).state 0) _ (told PauseStruck e) in
      record {
        apart = not_3 set (both_left (not (eqb set 3)) (either (same bytes plain) (same bytes ctrl)) t);
        code = one_of bytes plain ctrl (both_right (not (eqb set 3)) (either (same bytes plain) (same bytes ctrl)) t);
      }

  -- Where more is needed, the next state stands for exactly the bytes read so far.
  pub state_is_what_was_read : (read_byte set state byte).event ≡ More → seen (read_byte set state byte).state ≡ seen state ++ byte ∷ []
  unfolding right
  state_is_what_was_read e = sym (same_is (seen state ++ byte ∷ []) (seen (read_byte set state byte).state) (passed _ (told More e)))
