-- Turned contacts keep the held keys and the contacts in agreement: a key that turned has the flag that its contact shows now,
-- and no other flag changes. Assumes nothing.
use mathlib.Core.Path.{◌≡◌, refl, sym, ◌∙◌}
use mathlib.Core.Bool.{true}
use mathlib.Core.List.{List}
use Prim.Native.Nat.{ℕ, zero, suc, ◌/◌, ◌≤◌, ◌<◌}
use native.Mathlib.Nat.{zero-div, not-suc-le-zero}
use native.Mathlib.Decide.{ℕ_discrete}
use native.Mathlib.Omega.{arith}
use lib.ListN.{length, get_or, replicate, length-set}
use Rattle.std.proofs.lemmas.Grind.{common_steps}
use Rattle.basics.specs.Lists.{all_up_to}
use Rattle.basics.proofs.Limits.{up_to_at}
use Rattle.keys.specs.Keys.{last_key}
use Rattle.contacts.specs.Scans.{contact}
use Rattle.contacts.proofs.Pointwise.{contact_small}
use Rattle.keying.specs.Changes.{pressed, released_with, released, moved, turned, turns_to}
use Rattle.keying.proofs.Kept.{turns_keep}
use Rattle.record.specs.declared.Mode.{Mode}
use Rattle.record.specs.Views.{Keys}
use Rattle.telling.specs.Agreeing.{Agrees, EachOnce}
use Rattle.basics.proofs.Zeros.{zeros_at}

-- There are 144 flags, whatever turns.
abbrev Flags : Keys → Type 0
Flags k = length k.held ≡ 144

module _ (m : Mode) where
  pub pressed_flags : (k : Keys) (type key : ℕ) → length k.held ≡ 144 → length (pressed k m type key).held ≡ 144
  unfolding pressed
  pressed_flags k type key e = simp length-set e

  pub released_flags : (k : Keys) (type key : ℕ) → length k.held ≡ 144 → length (released k m type key).held ≡ 144
  unfolding released released_with
  released_flags k type key e = simp length-set e

  module _ (types map : List ℕ) where
    -- One contact: the flags of all keys but its own stay,
    turned_other : (position before after : ℕ) (k : Keys) (j : ℕ)
        → ((get_or map position 0 ≡ 0 → ⊥) → get_or map position 0 ≡ j → ⊥)
        → get_or (turned m types map position before after k).held j 0 ≡ get_or k.held j 0
    unfolding turned moved pressed released released_with
    turned_other position before after k j other = grind (arith, common_steps)

    -- and its own becomes what the contact is.
    turned_own : (position before after : ℕ) (k : Keys) → (get_or map position 0 ≡ 0 → ⊥) → get_or map position 0 < length k.held
        → after < 2 → get_or k.held (get_or map position 0) 0 ≡ before
        → get_or (turned m types map position before after k).held (get_or map position 0) 0 ≡ after
    unfolding turned moved pressed released released_with
    turned_own position before after k some fits small was = grind (arith, common_steps)

    module _ (was is : List ℕ) (k : Keys) where
      -- A key of which no contact below a position turned has its flag as before.
      pub turns_other : (n j : ℕ) → ((p : ℕ) → p < n → (get_or map p 0 ≡ 0 → ⊥) → get_or map p 0 ≡ j → ⊥)
          → get_or (turns_to n m types map was is k).held j 0 ≡ get_or k.held j 0
      unfolding turns_to
      turns_other zero j none = refl
      turns_other (suc n) j none = grind (arith, turns_other n j (λ p h. none p (omega arith)), turned_other)

      turns_flags : length k.held ≡ 144 → all_up_to last_key map ≡ true → (n : ℕ) → length (turns_to n m types map was is k).held ≡ 144
      turns_flags flags limit n =
          turns_keep Flags m released_flags (λ k type key h p. pressed_flags k type key p) types map limit n was is k flags

      module _ (flags : length k.held ≡ 144) (limit : all_up_to last_key map ≡ true) (once : EachOnce map) where
        -- A key whose contact is below the position shows what the contact is.
        turns_own : (p : ℕ) → (get_or map p 0 ≡ 0 → ⊥) → get_or k.held (get_or map p 0) 0 ≡ contact was p
            → (n : ℕ) → p < n → n ≤ 144 → get_or (turns_to n m types map was is k).held (get_or map p 0) 0 ≡ contact is p
        unfolding turns_to
        turns_own p some before zero h b = absurd (not-suc-le-zero h)
        turns_own p some before (suc n) h b = go (ℕ_discrete p n) (λ l. turns_own p some before n l (omega arith))
          where
            go : Dec (p ≡ n) → (p < n → get_or (turns_to n m types map was is k).held (get_or map p 0) 0 ≡ contact is p)
                → get_or (turns_to (suc n) m types map was is k).held (get_or map p 0) 0 ≡ contact is p
            go (yes e) earlier =
                let low : get_or map p 0 ≤ last_key = up_to_at last_key map p limit in
                let long = turns_flags flags limit p in
                let still = turns_other p (get_or map p 0) (λ q l s o. let same = once q p (omega arith) (omega arith) o s in omega arith) in
                rw (← e)
                (turned_own p (contact was p) (contact is p) (turns_to p m types map was is k) some (omega arith) (contact_small is p)
                (still ∙ before))
            go (no e) earlier =
                turned_other n (contact was n) (contact is n) (turns_to n m types map was is k) (get_or map p 0)
                (λ s o. e (sym (once n p (omega arith) (omega arith) o s)))
                ∙ earlier (omega arith)

        pub turns_agree : Agrees map was k.held → Agrees map is (turns_to 144 m types map was is k).held
        turns_agree a = grind (arith, turns_own, turns_other)

-- No key held and no contact closed agree, whatever the map.
pub none_agree : (map closed held : List ℕ) → ((key : ℕ) → get_or held key 0 ≡ 0) → ((p : ℕ) → p < 144 → contact closed p ≡ 0)
    → Agrees map closed held
none_agree map closed held none at_rest = grind arith

-- In columns of zeros every contact is open.
pub contact_open : (n position : ℕ) → contact (replicate n 0) position ≡ 0
unfolding contact
contact_open n position = rw (zeros_at n (position / 8), zero-div)
