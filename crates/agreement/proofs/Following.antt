-- What is true of a dock and a terminal that follows it. Assumes nothing.
use mathlib.Core.Path.{◌≡◌}
use mathlib.Core.Logic.{◌⊎◌}
use mathlib.Core.List.{[]}
use Prim.Native.Nat.{ℕ}
use native.Mathlib.Omega.{arith}
use Rattle.basics.proofs.Cases.{picked}
use Rattle.keys.specs.Keys.{last_key}
use Rattle.dock.specs.Closing.{with_handed, closing}
use Rattle.keying.specs.Handover.{handed_over}
use Rattle.queue.specs.declared.Queue.{Queue}
use Rattle.queue.specs.Queues.{waiting}
use Rattle.record.specs.Views.{Keys, keys_of}
use Rattle.record.specs.declared.Dock.{Dock}
use Rattle.telling.proofs.Told.{Told, handed_told}
use Rattle.terminal.specs.Terminals.{Terminal}

-- Set 1 or 2 is chosen and no other is being chosen, and once the terminal has read all key bytes that wait, it finds the held keys
-- down, Pause apart.
pub record Following (codes waits : ℕ) (keys : Keys) (t : Terminal) : Type 0 where
  pub chosen : (codes ≡ 1) ⊎ (codes ≡ 2)
  pub firm : waits ≡ 0xf0 → ⊥
  pub told : Told codes t keys

abbrev pub Follows : Dock → Terminal → Type 0
Follows d t = Following d.rest.mode.set d.rest.waiting (keys_of d) t

-- A queue of no length holds nothing.
pub none_wait : (q : Queue) → q.length ≡ 0 → waiting q ≡ []
unfolding waiting
none_wait q e = rw e

-- The end of every accepted call.
pub closing_follows : (d : Dock) (t : Terminal) → Follows d t → Follows (closing d) t
unfolding closing
closing_follows d t f =
    picked (λ (e : Dock). Follows e t) d.rest.handover (with_handed d (handed_over (keys_of d) d.rest.mode d.types)) d
    (record {
      chosen = f.chosen;
      firm = f.firm;
      told = handed_told d.rest.mode f.chosen t d.types last_key 1 (omega arith) (omega arith) (keys_of d) f.told;
    })
    f
