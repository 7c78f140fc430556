-- Where no handover is open, the keys that the dock holds are those that the scans say are held. Assumes nothing.
use mathlib.Core.Path.{◌≡◌, refl, sym, ap, ap₂, ◌∙◌}
use mathlib.Core.Logic.{inl}
use mathlib.Core.Bool.{Bool, true, false, not}
use mathlib.Core.List.{List, [], ◌∷◌}
use Prim.Native.Nat.{ℕ, zero, suc, ◌≤◌, ◌<◌}
use native.Mathlib.Omega.{arith}
use borrow.Author.Tests.{eqb-true, ne_eqb, not-false}
use lib.Dec.{eqb}
use lib.ListN.{length, get_or, replicate}
use Rattle.basics.specs.Choice.{both, either}
use Rattle.basics.proofs.Cases.{neither}
use Rattle.basics.proofs.Flags.{left_of_both, right_of_both, both_false}
use Rattle.contacts.specs.Counts.{Contacts}
use Rattle.contacts.specs.Scans.{contact}
use Rattle.contacts.proofs.Pointwise.{contact_small}
use Rattle.history.specs.Rows.{says_closed}
use Rattle.history.specs.Scans.{shown_at, says_held_from, says_held}
use Rattle.history.proofs.Counters.{counters_agree}
use Rattle.history.proofs.Held.{says_held_at, says_held_nowhere, found_at, absent_at}
use Rattle.maps.specs.Maps.{is_in}
use Rattle.record.specs.declared.Dock.{Dock}
use Rattle.runs.specs.Runs.{none_held_from}
use Rattle.telling.specs.Agreeing.{Agrees}
use Rattle.agreement.proofs.Ready.{IsReady}

-- A contact is not open if it is closed.
closed_or_open : (c : ℕ) → c < 2 → not (eqb c 0) ≡ eqb c 1
closed_or_open zero h = refl
closed_or_open (suc zero) h = refl
closed_or_open (suc (suc c)) h = absurd (omega arith)

-- Where no handover is open, the held keys are those that the scans say are held.
pub held_is_said : (d : Dock) (scans : List (List ℕ)) → IsReady d scans → d.rest.handover ≡ false → (key : ℕ) → 1 ≤ key
    → not (eqb (get_or d.held key 0) 0) ≡ says_held d.map scans key
held_is_said d scans r shut key low = go (is_in key d.map) refl
  where
    agree : Agrees d.map d.closed d.held
    agree = r.agree shut

    go : (there : Bool) → is_in key d.map ≡ there → not (eqb (get_or d.held key 0) 0) ≡ says_held d.map scans key
    go true e =
        let found = found_at key d.map e in
        let p = found.0 in
        let at : get_or d.map p 0 ≡ key = found.2 in
        let within : p < 144 = rw r.long at found.1 in
        let some : get_or d.map p 0 ≡ 0 → ⊥ = λ z. omega arith in
        let held : get_or d.held key 0 ≡ contact d.closed p = rw at at (agree.mapped p within some) in
        let said = ap (λ (k : Contacts). eqb (contact k.closed p) 1) r.seen ∙ counters_agree scans p within in
        rw held
        (closed_or_open (contact d.closed p) (contact_small d.closed p)
        ∙ said ∙ sym (says_held_at d.map scans p key r.single found.1 at low))
    go false e =
        let none = agree.unmapped key (λ p h some at. absent_at key d.map e p (rw r.long h) at) in
        rw none (sym (says_held_nowhere d.map scans key e))

-- Scans that say of no key on the map that it is held say so of each key,
none_said : (position : ℕ) (map : List ℕ) (scans : List (List ℕ)) (key : ℕ) → 1 ≤ key → none_held_from position map scans ≡ true
    → says_held_from position map scans key ≡ false
unfolding none_held_from says_held_from
none_said position [] scans key some none = refl
none_said position (k ∷ ks) scans key some none =
    let closed = says_closed (shown_at position scans) in
    let here = either (eqb k 0) (not closed) in
    let behind = none_held_from (suc position) ks scans in
    neither (both (eqb k key) closed) (says_held_from (suc position) ks scans key) (go closed (left_of_both here behind none))
    (none_said (suc position) ks scans key some (right_of_both here behind none))
  where
    go : (closed : Bool) → either (eqb k 0) (not closed) ≡ true → both (eqb k key) closed ≡ false
    go true e = first (eqb k 0) refl e
      where
        first : (b : Bool) → eqb k 0 ≡ b → either b false ≡ true → both (eqb k key) true ≡ false
        first true z h = let no_key = eqb-true k 0 z in rw (ne_eqb k key (λ same. omega arith))
        first false z h = absurd (omega (arith, impossible h))
          where
            impossible : ◌≡◌ {A = Bool} false true → ◌≡◌ {A = ℕ} 0 1
            impossible w = cc
    go false e = both_false (eqb k key)

-- so that none is held.
pub none_held : (d : Dock) (scans : List (List ℕ)) → IsReady d scans → d.rest.handover ≡ false → none_held_from 0 d.map scans ≡ true
    → (key : ℕ) → get_or d.held key 0 ≡ 0
unfolding says_held
none_held d scans r shut none zero = r.outside 0 (inl refl)
none_held d scans r shut none (suc key) =
    eqb-true (get_or d.held (suc key) 0) 0
    (not-false (eqb (get_or d.held (suc key) 0) 0)
    (held_is_said d scans r shut (suc key) (omega arith) ∙ none_said 0 d.map scans (suc key) (omega arith) none))

-- No scan says nothing of any key.
pub no_scan_says : (position : ℕ) (map : List ℕ) → none_held_from position map [] ≡ true
unfolding none_held_from shown_at says_closed
no_scan_says position [] = refl
no_scan_says position (key ∷ keys) = grind (arith, no_scan_says (suc position) keys)

-- A list with 0 at each place is zeros.
pub zeros_by_place : (l : List ℕ) → ((i : ℕ) → get_or l i 0 ≡ 0) → l ≡ replicate (length l) 0
zeros_by_place [] none = refl
zeros_by_place (x ∷ xs) none = ap₂ (λ (y : ℕ) (r : List ℕ). y ∷ r) (none 0) (zeros_by_place xs (λ i. none (suc i)))
