-- The calls on lent bytes. Assumes nothing.
use mathlib.Core.Path.{◌≡◌, refl, ap, ◌∙◌}
use mathlib.Core.Bool.{true, false}
use mathlib.Core.List.{List, ◌++◌}
use Prim.Native.Nat.{ℕ, ◌≤◌}
use native.Mathlib.Omega.{arith}
use borrow.Author.Tests.{eq-eqb, ne_eqb}
use lib.IntN.{pos}
use lib.ListN.{length, take}
use Rattle.basics.specs.Said.{minus}
use Rattle.queue.specs.Queues.{queue_of}
use Rattle.queue.proofs.Meaning.{tidy_short}
use Rattle.record.specs.declared.Rest.{Rest}
use Rattle.record.specs.declared.Dock.{Dock}
use Rattle.record.specs.Parts.{dock_with}
use Rattle.record.specs.Views.{keys_of}
use Rattle.record.specs.Power.{fresh_with, power_on}
use Rattle.record.specs.Sized.{IsSized}
use Rattle.range.specs.Range.{good_rest, in_range}
use Rattle.range.proofs.PowerOn.{power_on_in_range}
use Rattle.range.proofs.Ranges.{good_keys_queue, in_range_keys, in_range_rest}
use Rattle.dock.specs.Calls.{Call, Scan, Swap, Frame, Read}
use Rattle.dock.proofs.InRange.{scan_in_range, swap_in_range, frame_in_range, read_in_range}
use Rattle.dock.proofs.Arrays.{scan_sized, swap_sized, frame_sized, read_sized, power_on_sized}
use Rattle.dock.specs.declared.Refusal.{Refusal}
use Rattle.dock.specs.declared.Given.{Given}
use Rattle.dock.specs.Answers.{Taken, taken}
use Rattle.dock.specs.Read.{read, read_of}
use Rattle.dock.proofs.Reading.{read_done}
use Rattle.dock.proofs.Keeping.{scan_leaves, frame_leaves, read_leaves, beside, read_beside}
use Rattle.std.specs.Prelude.{Option, Result}
use Rattle.layout.specs.Layout.{types_at, closed_at, held_at, size, flag_of, map_in, types_in, closed_in, counts_in, held_in, rest_in, record_in, is_record, rest_bytes, bytes_of}
use Rattle.layout.proofs.Fronts.{types_put, contacts_put, held_put}
use Rattle.layout.proofs.Records.{record_size, record_in_range, record_sized}
use Rattle.layout.proofs.RoundTrip.{record_back, bytes_are_record}
use Rattle.lent.specs.Lent.{Done, done, given_number, number_for, bytes_after, power_number, power_bytes, indicators_number, scanning_number}

-- Every call leaves a record in its range, and its arrays with their sizes.
done_in_range : (call : Call) (d : Dock) → in_range d ≡ true → in_range (done call d).dock ≡ true
done_in_range (Scan scan) d h = scan_in_range d scan h
done_in_range (Swap map) d h = swap_in_range d map h
done_in_range (Frame number) d h = frame_in_range d number h
done_in_range Read d h = read_in_range d h

done_sized : (call : Call) (d : Dock) → in_range d ≡ true → IsSized d → IsSized (done call d).dock
done_sized (Scan scan) d h s = scan_sized d scan h s
done_sized (Swap map) d h s = swap_sized d map s
done_sized (Frame number) d h s = frame_sized d s number
done_sized Read d h s = read_sized d s

-- Bytes that are a record, and that record,
pub record Found (l : List ℕ) (d : Dock) : Type 0 where
  pub is : is_record l ≡ true
  pub same : d ≡ record_in l

-- by copies of its parts.
pub found : {l map types closed counts held : List ℕ} {rest : Rest} → is_record l ≡ true → map ≡ map_in l → types ≡ types_in l → closed ≡ closed_in l
    → counts ≡ counts_in l → held ≡ held_in l → rest ≡ rest_in l → Found l (dock_with map closed counts held types rest)
found is m t c n h r = record { is = is; same = rw (m, t, c, n, h, r) }

pub found_in_range : {l : List ℕ} {d : Dock} → Found l d → in_range d ≡ true
found_in_range {l = l} f = ap in_range f.same ∙ record_in_range l f.is

module _ (call : Call) (l : List ℕ) where
  -- Bytes that are no record are refused and stay as they are.
  pub refused_lent : is_record l ≡ false → record { answer : minus 9 ≡ number_for call l; bytes : l ≡ bytes_after call l }
  unfolding number_for bytes_after
  refused_lent f = record { answer = rw f; bytes = rw f }

  -- Of a record in the bytes: what waits after a call is at most 16 bytes, and number and bytes are those of the call.
  module _ (d : Dock) (f : Found l d) (after : Done) (x : after ≡ done call d) where
    pub room_after : record { size : length l ≡ size; short : after.dock.rest.outgoing.queue.length ≤ 16 }
    room_after =
        let good : in_range after.dock ≡ true = ap (λ (y : Done). in_range y.dock) x ∙ done_in_range call d (found_in_range f) in
        record { size = record_size l f.is; short = tidy_short _ (good_keys_queue (keys_of after.dock) (in_range_keys after.dock good)) }

    pub called_lent : (new : List ℕ) → new ≡ bytes_of after.dock → record { answer : after.number ≡ number_for call l; bytes : new ≡ bytes_after call l }
    unfolding number_for bytes_after
    called_lent new e = record { answer = rw (x, f.same, f.is); bytes = rw (e, x, f.same, f.is) }

  module _ (h : is_record l ≡ true) where
    -- They are a record again, the one that the call makes of the record in the bytes.
    sized_after : IsSized (done call (record_in l)).dock
    sized_after = done_sized call (record_in l) (record_in_range l h) (record_sized l h)

    pub record_after : is_record (bytes_after call l) ≡ true
    unfolding bytes_after
    record_after = rw h (bytes_are_record (done call (record_in l)).dock sized_after (done_in_range call (record_in l) (record_in_range l h)))

    pub means_after : record_in (bytes_after call l) ≡ (done call (record_in l)).dock
    unfolding bytes_after
    means_after = rw h (record_back (done call (record_in l)).dock sized_after)

-- What a call can change, put behind the parts of the record that it leaves, is the whole record.
module _ (l : List ℕ) (d : Dock) (f : Found l d) (after : Done) where
  pub scan_put : (scan : List ℕ) → after ≡ done (Scan scan) d
      → take closed_at l ++ (after.dock.closed ++ (after.dock.counts ++ (after.dock.held ++ rest_bytes after.dock.rest))) ≡ bytes_of after.dock
  scan_put scan x =
      let same = scan_leaves d scan in
      contacts_put l after.dock (rw x same.0 ∙ ap (λ (e : Dock). e.map) f.same) (rw x same.1 ∙ ap (λ (e : Dock). e.types) f.same)

  pub frame_put : (number : ℕ) → after ≡ done (Frame number) d
      → take types_at l ++ (after.dock.types ++ (after.dock.closed ++ (after.dock.counts ++ (after.dock.held ++ rest_bytes after.dock.rest)))) ≡ bytes_of after.dock
  frame_put number x = types_put l after.dock (rw x (frame_leaves d number) ∙ ap (λ (e : Dock). e.map) f.same)

-- A read is made on a copy of held keys, types and the rest alone, beside any map and contacts. It gives the byte, and leaves held keys and the
-- rest, as a read of the record does.
module _ (l : List ℕ) (is : is_record l ≡ true) {rest : Rest} (r : rest ≡ rest_in l) where
  pub read_ready : good_rest rest ≡ true
  read_ready = rw r (in_range_rest (record_in l) (record_in_range l is))

  module _ {types held : List ℕ} (t : types ≡ types_in l) (h : held ≡ held_in l) (map closed counts : List ℕ)
      (given : Result (Option Given) Refusal) (new : Dock) (e : taken given new ≡ read (dock_with map closed counts held types rest)) where
    abbrev after : Done
    after = done Read (record_in l)

    here : Found l (record_in l)
    here = record { is = is; same = refl }

    read_aside : taken given new ≡ taken (read_of (record_in l)).given (beside map closed counts (read_of (record_in l)).dock)
    read_aside =
        e ∙ rw (t, h, r) (read_beside (record_in l) map closed counts)
        ∙ ap (λ (x : Taken). taken x.given (beside map closed counts x.dock)) (read_done (record_in l) (record_in_range l is))

    rest_after : new.rest ≡ after.dock.rest
    rest_after = ap (λ (x : Taken). x.dock.rest) read_aside

    pub read_room : record { size : length l ≡ size; short : new.rest.outgoing.queue.length ≤ 16 }
    read_room = let room = room_after Read l (record_in l) here after refl in record { size = room.size; short = rw rest_after room.short }

    pub read_lent : (bytes : List ℕ) → bytes ≡ take held_at l ++ (new.held ++ rest_bytes new.rest)
        → record { answer : given_number given ≡ number_for Read l; bytes : bytes ≡ bytes_after Read l }
    read_lent bytes b =
        let same = read_leaves (record_in l) in
        let whole = held_put l after.dock same.0 same.1 same.2 same.3 in
        let back : bytes ≡ bytes_of after.dock = b ∙ rw (ap (λ (x : Taken). x.dock.held) read_aside, rest_after) whole in
        let called = called_lent Read l (record_in l) here after refl bytes back in
        record { answer = ap (λ (x : Taken). given_number x.given) read_aside ∙ called.answer; bytes = called.bytes }

-- Power-on looks at how many bytes there are and at nothing else.
pub not_woken : (l : List ℕ) → (length l ≡ size → ⊥) → (minus 9 ≡ power_number l) × (l ≡ power_bytes l)
unfolding power_number power_bytes
not_woken l n = (rw (ne_eqb (length l) size n), rw (ne_eqb (length l) size n))

pub woken : (l : List ℕ) → length l ≡ size → (new : List ℕ) → new ≡ bytes_of power_on → (pos 0 ≡ power_number l) × (new ≡ power_bytes l)
unfolding power_number power_bytes
woken l s new e = (rw (eq-eqb (length l) size s), e ∙ rw (eq-eqb (length l) size s))

pub fresh_short : (d : Dock) → d ≡ power_on → d.rest.outgoing.queue.length ≤ 16
unfolding power_on fresh_with queue_of
fresh_short d e = rw e (omega arith)

-- What it leaves is a record.
pub power_is_record : is_record (bytes_of power_on) ≡ true
power_is_record = bytes_are_record power_on power_on_sized power_on_in_range

-- What a board lights lamps by, and whether scanning is on.
module _ (l : List ℕ) where
  pub no_lamps : is_record l ≡ false → minus 9 ≡ indicators_number l
  unfolding indicators_number
  no_lamps f = rw f

  pub no_flag : is_record l ≡ false → minus 9 ≡ scanning_number l
  unfolding scanning_number
  no_flag f = rw f

  module _ (b : List ℕ) (f : (is_record l ≡ true) × (b ≡ l)) (rest : Rest) (e : rest ≡ rest_in b) where
    pub lamps : pos rest.mode.indicators ≡ indicators_number l
    unfolding indicators_number
    lamps = rw (e, f.0, f.1)

    pub flag_found : pos (flag_of rest.scanning) ≡ scanning_number l
    unfolding scanning_number
    flag_found = rw (e, f.0, f.1)
