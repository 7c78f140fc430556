-- What every press and every release keeps, turned contacts and a handover keep. Assumes nothing.
use mathlib.Core.Path.{◌≡◌}
use mathlib.Core.Bool.{true, not}
use mathlib.Core.List.{List}
use Prim.Native.Nat.{ℕ, zero, suc, ◌≤◌}
use lib.Dec.{eqb}
use lib.ListN.{get_or}
use Rattle.basics.specs.Choice.{either}
use Rattle.basics.specs.Lists.{all_up_to}
use Rattle.basics.proofs.Cases.{picked}
use Rattle.basics.proofs.Limits.{up_to_at}
use Rattle.keys.specs.Keys.{last_key}
use Rattle.contacts.specs.Scans.{contact}
use Rattle.record.specs.declared.Mode.{Mode}
use Rattle.record.specs.Views.{Keys}
use Rattle.record.specs.Held.{is_held}
use Rattle.keying.specs.Handover.{Handed, can_leave, handed_from}
use Rattle.keying.specs.Changes.{pressed, released, moved, turned, turns_to}

module _ (P : Keys → Type 0) (m : Mode) (up : (k : Keys) (type key : ℕ) → P k → P (released k m type key)) where
  pub handed_keeps : (n key : ℕ) (k : Keys) (types : List ℕ) → P k → P (handed_from n key k m types).keys
  unfolding handed_from
  handed_keeps zero key k types p = p
  handed_keeps (suc n) key k types p =
      picked (λ (h : Handed). P h.keys) (either (not (is_held k key)) (can_leave k m types key)) _ _
      (handed_keeps n (suc key) _ types (picked P (is_held k key) _ _ (up k (get_or types key 0) key p) p))
      p

  module _ (down : (k : Keys) (type key : ℕ) → key ≤ last_key → P k → P (pressed k m type key)) (types : List ℕ) where
    pub moved_keeps : (key closed : ℕ) → key ≤ last_key → (k : Keys) → P k → P (moved k m types key closed)
    unfolding moved
    moved_keeps key closed h k p =
        picked P (eqb key 0) _ _ p
        (picked P (eqb closed 1) _ _ (down k (get_or types key 0) key h p) (up k (get_or types key 0) key p))

    module _ (map : List ℕ) (a : all_up_to last_key map ≡ true) where
      turned_keeps : (position before after : ℕ) (k : Keys) → P k → P (turned m types map position before after k)
      unfolding turned
      turned_keeps position before after k p =
          picked P (eqb before after) _ _ p (moved_keeps (get_or map position 0) after (up_to_at last_key map position a) k p)

      pub turns_keep : (n : ℕ) (was is : List ℕ) (k : Keys) → P k → P (turns_to n m types map was is k)
      unfolding turns_to
      turns_keep zero was is k p = p
      turns_keep (suc n) was is k p = turned_keeps n (contact was n) (contact is n) _ (turns_keep n was is k p)
