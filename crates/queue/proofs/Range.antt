-- What pushing and popping give is in range again. Assumes nothing.
use mathlib.Core.Path.{◌≡◌}
use mathlib.Core.Bool.{true}
use mathlib.Core.List.{List}
use Prim.Native.Nat.{ℕ, ◌≤◌}
use native.Mathlib.Omega.{arith}
use lib.ListN.{length, drop, length-take, length-drop}
use Rattle.queue.specs.declared.Queue.{Queue}
use Rattle.queue.specs.Queues.{waiting, queue_of, tidy, pushed_to}
use Rattle.queue.proofs.Meaning.{tidy_short, tidy-queue_of}
use Rattle.queue.proofs.Room.{pushed_short}

module _ (q : Queue) (t : tidy q ≡ true) where
  waiting_short : length (waiting q) ≤ 16
  unfolding waiting
  waiting_short = omega (arith, length-take q.length q.bytes, tidy_short q t)

  pub pushed_tidy : (mark : ℕ) (s : List ℕ) → tidy (queue_of (pushed_to mark (waiting q) s)) ≡ true
  pushed_tidy mark s = tidy-queue_of _ (pushed_short mark (waiting q) s waiting_short)

  pub popped_tidy : tidy (queue_of (drop 1 (waiting q))) ≡ true
  popped_tidy = tidy-queue_of _ (omega (arith, length-drop 1 (waiting q), waiting_short))
