-- A handover is open exactly as long as a key is left, and then no scan has been counted since the swap: so an onlooker need not ask the
-- dock whether a swap is unfinished. Assumes nothing.
use mathlib.Core.Path.{◌≡◌, refl}
use mathlib.Core.Bool.{true, false}
use mathlib.Core.List.{List}
use Prim.Native.Nat.{ℕ, zero, suc, ◌≤◌}
use native.Mathlib.Omega.{arith}
use lib.ListN.{get_or}
use Rattle.basics.proofs.Cases.{never}
use Rattle.keying.specs.Handover.{Handed, can_leave, handed_from}
use Rattle.record.specs.declared.Mode.{Mode}
use Rattle.record.specs.Views.{Keys}
use Rattle.runs.specs.Machines.{lowest_from, finds_no_room}
use Rattle.telling.proofs.Handing.{held_up, passed, passed_gone, step}

-- Where no key is held, none is the lowest.
pub none_lowest : (n key : ℕ) (held : List ℕ) → ((j : ℕ) → get_or held j 0 ≡ 0) → lowest_from n key held ≡ 0
unfolding lowest_from
none_lowest zero key held none = refl
none_lowest (suc n) key held none = grind (arith, none_lowest n (suc key) held none)

-- A key that is not held is not the lowest, and one that is held is, if it is the first that is looked at.
lowest_behind : (n key : ℕ) (held : List ℕ) → get_or held key 0 ≡ 0 → lowest_from (suc n) key held ≡ lowest_from n (suc key) held
unfolding lowest_from
lowest_behind n key held down = grind arith

lowest_here : (n key : ℕ) (held : List ℕ) → (get_or held key 0 ≡ 0 → ⊥) → lowest_from (suc n) key held ≡ key
unfolding lowest_from
lowest_here n key held up = grind arith

module _ (m : Mode) (types : List ℕ) where
  -- A key that cannot leave finds no room.
  no_room : (k : Keys) (key : ℕ) → 1 ≤ key → can_leave k m types key ≡ false → finds_no_room k m types key ≡ true
  unfolding finds_no_room
  no_room k key some stuck = grind arith

  -- A handover that stops does so at the lowest key that is held, for want of room.
  pub handed_stuck : (n key : ℕ) (k : Keys) → 1 ≤ key → (handed_from n key k m types).unfinished ≡ true
      → finds_no_room (handed_from n key k m types).keys m types (lowest_from n key (handed_from n key k m types).keys.held) ≡ true
  unfolding handed_from
  handed_stuck zero key k some e = never false e refl
  handed_stuck (suc n) key k some e =
      step m types (λ (h : Handed). h.unfinished ≡ true → finds_no_room h.keys m types (lowest_from (suc n) key h.keys.held) ≡ true) n key k
      (λ on unfinished.
      let rest = handed_from n (suc key) (passed m types k key) m types in
      rw (lowest_behind n key rest.keys.held (passed_gone m types n key k key refl))
      (handed_stuck n (suc key) (passed m types k key) (omega arith) unfinished))
      (λ up stuck unfinished. rw (lowest_here n key k.held (held_up k key up)) (no_room k key some stuck))
      e
