-- No key byte is lost, given twice or made up: while no frame's byte clears the queue and the queue does not overrun, the key bytes that
-- reads give and those that still wait are, in order, those that waited and those that calls put into the queue, whole sequences all of
-- them. Assumes nothing.
use mathlib.Core.Path.{◌≡◌, refl, sym, ap, ◌∙◌}
use mathlib.Core.Bool.{true, false, not}
use mathlib.Core.List.{List, [], ◌∷◌, ◌++◌, append-nil, append_assoc}
use Prim.Native.Nat.{ℕ, ◌≤◌}
use native.Mathlib.Omega.{arith}
use borrow.Author.Tests.{eqb-false, not-true}
use lib.ListN.{length, get_or, drop}
use Rattle.basics.specs.Choice.{pick, either}
use Rattle.basics.proofs.Flags.{left_of_both, right_of_both}
use Rattle.dock.specs.Answers.{Answered, Taken, is_accepted}
use Rattle.dock.specs.Swap.{opened, remapped, swapped, swap_of}
use Rattle.dock.specs.Frame.{took_frame, frame_of}
use Rattle.dock.specs.Read.{oldest, without_oldest, oldest_reply, replies_behind, remembering, reply_taken, key_byte_taken, read_of}
use Rattle.commands.specs.Commands.{commanded}
use Rattle.host.specs.Values.{took_byte}
use Rattle.host.proofs.Ladder.{by_value, by_byte}
use Rattle.queue.specs.Queues.{waiting}
use Rattle.queue.proofs.Meaning.{waiting-queue_of}
use Rattle.record.specs.Views.{keys_of, with_queue}
use Rattle.record.specs.Parts.{with_keys, with_replies}
use Rattle.record.specs.declared.Dock.{Dock}
use Rattle.range.specs.Range.{in_range}
use Rattle.dock.specs.Calls.{Call, Scan, Swap, Frame, Read}
use Rattle.runs.specs.Clearing.{clears, is_clearing, is_clearing_call}
use Rattle.runs.specs.Machines.{ours}
use Rattle.runs.specs.Worlds.{World, woken, next, after_calls}
use Rattle.runs.specs.Runs.{overruns_in, undisturbed}
use Rattle.runs.specs.Bytes.{closing_bytes, read_bytes, queued_by, key_bytes_of, given_by, queued_in, given_in}
use Rattle.agreement.proofs.Framed.{mild, obeyed_mild}
use Rattle.agreement.proofs.Taken.{some_wait}
use Rattle.agreement.proofs.AnyCalls.{Sound, same_overrun, woken_sound, any_sound}
use Rattle.agreement.proofs.Queuing.{bytes_of, closing_bytes_lem, scan_bytes_lem}
use Rattle.dock.proofs.Calls.{by_swap, by_read}

module _ (d : Dock) where
  -- A swap by itself queues nothing.
  remapped_bytes : (map : List ℕ) → bytes_of (remapped d map) ≡ bytes_of d
  unfolding remapped opened
  remapped_bytes map = grind arith

  swap_bytes : (map : List ℕ) → bytes_of (swap_of d map).dock ≡ bytes_of d ++ queued_by d (Swap map)
  unfolding swapped
  swap_bytes map =
      let then = remapped d map in
      by_swap (λ (a : Answered). bytes_of a.dock ≡ bytes_of d ++ pick (is_accepted a.answer) (closing_bytes then) []) d
      (λ refusal. sym (append-nil (bytes_of d))) map
      (λ long good. closing_bytes_lem then ∙ ap (λ (l : List ℕ). l ++ closing_bytes then) (remapped_bytes map))

  -- Nor does a byte from the host, unless it clears the queue.
  took_keys : (byte : ℕ) → clears byte ≡ false → keys_of (took_byte byte d) ≡ keys_of d
  unfolding commanded
  took_keys byte mildly =
      let Same : Dock → Type 0 = λ (e : Dock). keys_of e ≡ keys_of d in
      by_byte Same byte d (λ fe. refl) (λ other high. ap (λ (e : Dock). keys_of e) (obeyed_mild byte d (mild byte mildly)))
      (λ low. by_value Same byte d refl (λ f0. refl) refl refl refl refl)

  frame_bytes_lem : (number : ℕ) → in_range d ≡ true → is_clearing number ≡ false
      → bytes_of (frame_of d number).dock ≡ bytes_of d ++ queued_by d (Frame number)
  unfolding frame_of took_frame is_clearing closing_bytes
  frame_bytes_lem number range = grind (arith, closing_bytes_lem, took_keys, append-nil)

-- Some bytes are the first and the rest.
first_and_rest : (l : List ℕ) → 1 ≤ length l → l ≡ get_or l 0 0 ∷ drop 1 l
first_and_rest [] some = absurd (omega arith)
first_and_rest (x ∷ xs) some = refl

read_bytes_lem : (w : World) → Sound w
    → bytes_of w.dock ++ queued_by w.dock Read ≡ given_by w.dock Read ++ bytes_of (read_of w.dock).dock
unfolding reply_taken key_byte_taken remembering closing_bytes
read_bytes_lem w s =
    let d = w.dock in
    let q = d.rest.outgoing.queue in
    let rest = with_keys d (with_queue (keys_of d) (without_oldest q)) in
    by_read (λ (t : Taken). bytes_of w.dock ++ read_bytes t.given w.dock ≡ key_bytes_of t.given ++ bytes_of t.dock) d
    (append-nil (bytes_of d))
    (λ none empty. sym (closing_bytes_lem d))
    (λ none some.
    let first = first_and_rest (waiting q) (some_wait q s.settled.ready.places.bytes (eqb-false q.length 0 some)) in
    let after = closing_bytes_lem (remembering rest (oldest q))
    ∙ ap (λ (l : List ℕ). l ++ closing_bytes rest) (waiting-queue_of (drop 1 (waiting q))) in
    ap (λ (l : List ℕ). l ++ closing_bytes rest) first ∙ ap (λ (l : List ℕ). oldest q ∷ l) (sym after))
    (λ some. sym (closing_bytes_lem (remembering (with_replies d (replies_behind d.rest.replies)) (oldest_reply d.rest.replies))))

-- One call.
pub call_keeps_bytes : (w : World) (call : Call) → Sound w → either (is_clearing_call call) (overruns_in w call) ≡ false
    → waiting w.dock.rest.outgoing.queue ++ queued_by w.dock call ≡ given_by w.dock call ++ waiting (next ours w call).dock.rest.outgoing.queue
unfolding next
call_keeps_bytes w (Scan scan) s calm = grind (arith, scan_bytes_lem, same_overrun)
call_keeps_bytes w (Swap map) s calm = sym (swap_bytes w.dock map)
call_keeps_bytes w (Frame number) s calm = grind (arith, frame_bytes_lem)
call_keeps_bytes w Read s calm = read_bytes_lem w s

-- Any calls.
pub bytes_kept : (calls : List Call) (w : World) → Sound w → undisturbed ours w calls ≡ true
    → waiting w.dock.rest.outgoing.queue ++ queued_in w calls ≡ given_in w calls ++ waiting (after_calls ours w calls).dock.rest.outgoing.queue
unfolding after_calls undisturbed queued_in given_in
bytes_kept [] w s calm = append-nil (bytes_of w.dock)
bytes_kept (call ∷ calls) w s calm =
    let then = next ours w call in
    let disturbs = either (is_clearing_call call) (overruns_in w call) in
    let later = undisturbed ours then calls in
    let now = call_keeps_bytes w call s (not-true disturbs (left_of_both (not disturbs) later calm)) in
    let on = bytes_kept calls then (any_sound (call ∷ []) w s) (right_of_both (not disturbs) later calm) in
    let queued = queued_by w.dock call in
    let given = given_by w.dock call in
    sym (append_assoc (bytes_of w.dock) queued (queued_in then calls))
    ∙ ap (λ (l : List ℕ). l ++ queued_in then calls) now
    ∙ append_assoc given (bytes_of then.dock) (queued_in then calls)
    ∙ ap (λ (l : List ℕ). given ++ l) on
    ∙ sym (append_assoc given (given_in then calls) (bytes_of (after_calls ours then calls).dock))

-- So it is from any moment since power-on.
pub bytes_kept_since : (earlier calls : List Call) → undisturbed ours (after_calls ours (woken ours) earlier) calls ≡ true
    → waiting (after_calls ours (woken ours) earlier).dock.rest.outgoing.queue ++ queued_in (after_calls ours (woken ours) earlier) calls
    ≡ given_in (after_calls ours (woken ours) earlier) calls ++ waiting (after_calls ours (after_calls ours (woken ours) earlier) calls).dock.rest.outgoing.queue
bytes_kept_since earlier calls calm = grind (arith, bytes_kept, any_sound, woken_sound)
