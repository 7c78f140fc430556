-- What waits after keys moved, where the queue does not overrun: what waited before with whole sequences behind it. For every set.
-- Assumes nothing.
use mathlib.Core.Path.{◌≡◌, refl, sym}
use mathlib.Core.Bool.{true, false, not}
use mathlib.Core.List.{List, [], ◌++◌, append-nil}
use Prim.Native.Nat.{ℕ, zero, suc}
use native.Mathlib.Omega.{arith}
use lib.ListN.{length, get_or}
use Rattle.std.proofs.lemmas.Grind.{common_steps}
use Rattle.basics.specs.Choice.{pick, either}
use Rattle.codes.specs.declared.Action.TheVariants.{Press, Release}
use Rattle.queue.specs.declared.Queue.{Queue}
use Rattle.queue.specs.Queues.{waiting, has_room}
use Rattle.queue.proofs.Meaning.{waiting-queue_of}
use Rattle.queue.proofs.Room.{pushed_whole}
use Rattle.record.specs.declared.Mode.{Mode}
use Rattle.record.specs.Views.{Keys}
use Rattle.record.specs.Held.{is_held}
use Rattle.sending.specs.Sending.{sends, queued_of}
use Rattle.keying.specs.Handover.{Handed, can_leave, handed_from}
use Rattle.keying.specs.Changes.{pressed, released_with, released, turns_to}
use Rattle.telling.specs.Overruns.{overruns_at, overruns_to}
use Rattle.telling.specs.Queued.{turn_bytes, handed_bytes}
use Rattle.basics.proofs.Cases.{two_by_cases, neither_first, neither_second}
use Rattle.telling.proofs.Turning.{Fits, each_turn}

-- Bytes that have room are queued whole, behind those that wait.
queued_whole : (q : Queue) (m : Mode) (bytes : List ℕ) → has_room (waiting q) (length bytes) ≡ true
    → waiting (queued_of q m bytes) ≡ waiting q ++ bytes
unfolding queued_of
queued_whole q m bytes room = grind (arith, waiting-queue_of, pushed_whole)

-- Bytes behind bytes.
grown : (before first now second then : List ℕ) → now ≡ before ++ first → then ≡ now ++ second → then ≡ before ++ (first ++ second)
grown before first now second then e f = grind (arith, common_steps)

module _ (m : Mode) where
  pub pressed_whole : (k : Keys) (type key : ℕ) → Fits k m type key Press
      → waiting (pressed k m type key).queue ≡ waiting k.queue ++ sends k m type key Press
  unfolding pressed
  pressed_whole k type key room = grind (arith, queued_whole)

  pub released_whole : (k : Keys) (type key : ℕ) → Fits k m type key Release
      → waiting (released k m type key).queue ≡ waiting k.queue ++ sends k m type key Release
  unfolding released released_with
  released_whole k type key room = grind (arith, queued_whole)

  module _ (types : List ℕ) where
    pub turns_whole : (map : List ℕ) (n : ℕ) (was is : List ℕ) (k : Keys) → overruns_to n m types map was is k ≡ false
        → waiting (turns_to n m types map was is k).queue ≡ waiting k.queue ++ turn_bytes n m types map was is k
    unfolding turns_to overruns_to turn_bytes
    turns_whole map zero was is k fits = sym (append-nil (waiting k.queue))
    turns_whole map (suc n) was is k fits =
        let so_far = turns_to n m types map was is k in
        let before = overruns_to n m types map was is k in
        let now = overruns_at m types map was is n so_far in
        let key = get_or map n 0 in
        grown (waiting k.queue) (turn_bytes n m types map was is k) (waiting so_far.queue) _ _
        (turns_whole map n was is k (neither_first before now fits))
        (each_turn (λ (e : Keys) (bytes : List ℕ). waiting e.queue ≡ waiting so_far.queue ++ bytes) m types so_far
        (sym (append-nil (waiting so_far.queue))) key
        (λ low room. pressed_whole so_far (get_or types key 0) key room)
        (λ low room. released_whole so_far (get_or types key 0) key room)
        map was is n refl (neither_second before now fits))

    pub handed_whole : (n key : ℕ) (k : Keys)
        → waiting (handed_from n key k m types).keys.queue ≡ waiting k.queue ++ handed_bytes n key k m types
    unfolding handed_from handed_bytes
    handed_whole zero key k = sym (append-nil (waiting k.queue))
    handed_whole (suc n) key k =
        let type = get_or types key 0 in
        let next = pick (is_held k key) (released k m type key) k in
        two_by_cases (λ (h : Handed) (bytes : List ℕ). waiting h.keys.queue ≡ waiting k.queue ++ bytes)
        (either (not (is_held k key)) (can_leave k m types key)) _ _ _ _
        (λ free. grown (waiting k.queue) (pick (is_held k key) (sends k m type key Release) []) (waiting next.queue) _ _
        (two_by_cases (λ (e : Keys) (bytes : List ℕ). waiting e.queue ≡ waiting k.queue ++ bytes) (is_held k key) _ _ _ _
        (λ held. released_whole k type key (rw held at free))
        (λ up. sym (append-nil (waiting k.queue))))
        (handed_whole n (suc key) next))
        (λ stays. sym (append-nil (waiting k.queue)))
