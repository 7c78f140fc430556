-- An overrun: of a sequence that does not fit not a byte goes in. The bytes that wait stay, but for the last, which becomes the set's
-- mark. Assumes nothing.
use mathlib.Core.Path.{◌≡◌, refl, ap, ◌∙◌}
use mathlib.Core.Bool.{true, false}
use mathlib.Core.List.{List, [], ◌∷◌, ◌++◌}
use Prim.Native.Nat.{ℕ, ◌≤◌}
use native.Mathlib.Omega.{arith}
use lib.ListN.{length}
use Rattle.keys.specs.Keys.{mark_of}
use Rattle.queue.specs.declared.Queue.{Queue}
use Rattle.queue.specs.Queues.{waiting, has_room}
use Rattle.queue.proofs.Meaning.{waiting-queue_of}
use Rattle.queue.proofs.Room.{pushed_nothing_front, no_room_waits}
use Rattle.record.specs.declared.Mode.{Mode}
use Rattle.record.specs.Views.{Keys}
use Rattle.sending.specs.Sending.{queued_of}
use Rattle.sending.proofs.Sent.{sends_short}
use Rattle.keying.specs.Changes.{pressed, released_with, released, moved, turned, turned_at}
use Rattle.telling.specs.Overruns.{lacks_room, overruns_at}

-- The bytes before and after: the same, but for the last.
pub record Marked (before : List ℕ) (mark : ℕ) (after : List ℕ) : Type 0 where
  pub front : List ℕ
  pub last : ℕ
  pub was : before ≡ front ++ last ∷ []
  pub is : after ≡ front ++ mark ∷ []

-- Some bytes have a last one.
parted : (l : List ℕ) → 1 ≤ length l → (front : List ℕ) × (last : ℕ) × (l ≡ front ++ last ∷ [])
parted [] h = absurd (omega arith)
parted (x ∷ []) h = ([], x, refl)
parted (x ∷ y ∷ rest) h =
    let later = parted (y ∷ rest) (omega arith) in
    (x ∷ later.0, later.1, ap (λ (l : List ℕ). x ∷ l) later.2)

queued_marked : (q : Queue) (m : Mode) (bytes : List ℕ) → length bytes ≤ 8 → has_room (waiting q) (length bytes) ≡ false
    → Marked (waiting q) (mark_of m.set) (waiting (queued_of q m bytes))
unfolding queued_of
queued_marked q m bytes few full =
    let mark = mark_of m.set in
    let parts = parted (waiting q) (omega (arith, no_room_waits mark (waiting q) bytes full few)) in
    record {
      front = parts.0;
      last = parts.1;
      was = parts.2;
      is = waiting-queue_of _ ∙ pushed_nothing_front mark (waiting q) bytes full parts.0 parts.1 parts.2;
    }

module _ (m : Mode) (types : List ℕ) (k : Keys) where
  moved_marked : (key closed : ℕ) → lacks_room k m types key closed ≡ true
      → Marked (waiting k.queue) (mark_of m.set) (waiting (moved k m types key closed).queue)
  unfolding lacks_room moved pressed released released_with
  moved_marked key closed lacks = grind (arith, queued_marked, sends_short)

  -- A contact that turned, with no room for the bytes of its key.
  pub overrun_marks : (map was is : List ℕ) (position : ℕ) → overruns_at m types map was is position k ≡ true
      → Marked (waiting k.queue) (mark_of m.set) (waiting (turned_at m types map was is position k).queue)
  unfolding overruns_at turned
  overrun_marks map was is position over = grind (arith, moved_marked)
