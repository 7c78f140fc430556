-- What the flags of the held keys have to do with the contacts, with the map and with the key that repeats (docs/RULES.md, sections
-- 5 and 6). Assumes nothing.
use Rattle.std.specs.Prelude.{ℕ, ◌<◌, ◌≡◌, ◌⊎◌, List, get_or}
use Rattle.keys.specs.Keys.{last_key}
use Rattle.contacts.specs.Scans.{contact}
use Rattle.record.specs.Views.{Keys}

-- The held keys are those whose contacts count as closed; a key that stands nowhere on the map is not held.
pub record Agrees (map closed held : List ℕ) : Type 0 where
  pub mapped : (position : ℕ) → position < 144 → (get_or map position 0 ≡ 0 → ⊥) → get_or held (get_or map position 0) 0 ≡ contact closed position
  pub unmapped : (key : ℕ)
      → ((position : ℕ) → position < 144 → (get_or map position 0 ≡ 0 → ⊥) → get_or map position 0 ≡ key → ⊥) → get_or held key 0 ≡ 0

-- No key stands at two positions of a map.
abbrev pub EachOnce : List ℕ → Type 0
EachOnce map = (p q : ℕ) → p < 144 → q < 144 → get_or map p 0 ≡ get_or map q 0 → (get_or map p 0 ≡ 0 → ⊥) → p ≡ q

-- No flag is up where there is no key.
abbrev pub NoneOutside : List ℕ → Type 0
NoneOutside held = (key : ℕ) → (key ≡ 0) ⊎ (last_key < key) → get_or held key 0 ≡ 0

-- The key that repeats, if one does, is held.
abbrev pub RepeatsHeld : Keys → Type 0
RepeatsHeld k = (k.repeating ≡ 0) ⊎ (get_or k.held k.repeating 0 ≡ 1)
