-- What holds of a call, by its cases: a law for each of the four calls, over any property. Assumes nothing.
use mathlib.Core.Path.{◌≡◌}
use mathlib.Core.Bool.{true, false}
use mathlib.Core.List.{List, [], ◌∷◌}
use Prim.Native.Nat.{ℕ}
use native.Mathlib.Omega.{arith}
use lib.Dec.{eqb}
use lib.ListN.{length}
use Rattle.std.specs.Prelude.{None, Ok, Err}
use Rattle.basics.specs.Lists.{all_up_to}
use Rattle.basics.proofs.Cases.{picked}
use Rattle.commands.specs.Commands.{replying}
use Rattle.host.specs.Values.{took_byte}
use Rattle.keys.specs.Keys.{last_key}
use Rattle.record.specs.declared.Dock.{Dock}
use Rattle.record.specs.Views.{keys_of, with_queue}
use Rattle.record.specs.Parts.{with_keys, with_replies}
use Rattle.dock.specs.declared.Refusal.{Refusal}
use Rattle.dock.specs.declared.Refusal.TheVariants.{BadRecord}
use Rattle.dock.specs.Answers.{Answered, Taken, answered, taken}
use Rattle.dock.specs.Closing.{closing}
use Rattle.dock.specs.Scan.{listening, heard_scan, scanned, scan_of}
use Rattle.dock.specs.Swap.{remapped, swapped, swap_of}
use Rattle.dock.specs.Frame.{took_frame, frame_of}
use Rattle.dock.specs.Read.{oldest, without_oldest, oldest_reply, replies_behind, remembering, reply_taken, key_byte_taken, read, read_of}

-- A property of the answer and the record beside it: whoever refuses leaves the record.
module _ (P : Answered → Type 0) (d : Dock) (left : (refusal : Refusal) → P (answered (Err refusal) d)) where
  pub by_scan : (scan : List ℕ) → P (answered (Ok tt) (scanned d scan)) → P (scan_of d scan)
  unfolding scan_of
  by_scan scan done = grind arith

  pub by_swap : (map : List ℕ) → (length map ≡ 144 → all_up_to last_key map ≡ true → P (answered (Ok tt) (swapped d map))) → P (swap_of d map)
  unfolding swap_of
  by_swap map done = grind arith

  pub by_frame : (number : ℕ) → ((byte : ℕ) → P (answered (Ok tt) (closing (took_byte byte d))))
      → P (answered (Ok tt) (closing (replying (0xfe ∷ []) d))) → P (frame_of d number)
  unfolding frame_of took_frame
  by_frame number took broken = grind arith

-- The same of a read: refused, or by what waits.
pub by_read : (P : Taken → Type 0) (d : Dock) → P (taken (Err BadRecord) d)
    → (eqb d.rest.replies.length 0 ≡ true → eqb d.rest.outgoing.queue.length 0 ≡ true → P (taken (Ok None) (closing d)))
    → (eqb d.rest.replies.length 0 ≡ true → eqb d.rest.outgoing.queue.length 0 ≡ false → P (key_byte_taken d))
    → (eqb d.rest.replies.length 0 ≡ false → P (reply_taken d)) → P (read_of d)
unfolding read_of read
by_read P d refused nothing key-byte reply = grind arith

-- A property of the record alone, which the end of every accepted call keeps: each call keeps it if what it does before its end does.
module _ (P : Dock → Type 0) (ends : (e : Dock) → P e → P (closing e)) (d : Dock) (p : P d) where
  abbrev After : Answered → Type 0
  After a = P a.dock

  pub scan_keeps : (scan : List ℕ) → P (heard_scan d scan) → P (scan_of d scan).dock
  unfolding scanned
  scan_keeps scan heard = by_scan After d (λ refusal. p) scan (picked P (listening d) _ _ heard (ends d p))

  pub swap_keeps : (map : List ℕ) → (length map ≡ 144 → all_up_to last_key map ≡ true → P (remapped d map)) → P (swap_of d map).dock
  unfolding swapped
  swap_keeps map done = by_swap After d (λ refusal. p) map (λ long good. ends _ (done long good))

  pub frame_keeps : (number : ℕ) → ((byte : ℕ) → P (took_byte byte d)) → P (replying (0xfe ∷ []) d) → P (frame_of d number).dock
  frame_keeps number took broken = by_frame After d (λ refusal. p) number (λ byte. ends _ (took byte)) (ends _ broken)

  pub read_keeps : ((byte : ℕ) → P (remembering (with_keys d (with_queue (keys_of d) (without_oldest d.rest.outgoing.queue))) byte))
      → ((byte : ℕ) → P (remembering (with_replies d (replies_behind d.rest.replies)) byte)) → P (read_of d).dock
  unfolding key_byte_taken reply_taken
  read_keeps key-byte reply =
      by_read (λ (t : Taken). P t.dock) d p (λ none empty. ends d p)
      (λ none some. ends _ (key-byte (oldest d.rest.outgoing.queue))) (λ some. ends _ (reply (oldest_reply d.rest.replies)))
