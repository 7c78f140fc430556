-- The flags of the held keys (docs/RULES.md, sections 3 and 5). Assumes nothing.
use Rattle.std.specs.Prelude.{ℕ, zero, suc, ◌+◌, ◌*◌, Bool, not, List, eqb, get_or, set}
use Rattle.basics.specs.Choice.{pick}
use Rattle.keys.specs.Keys.{last_key}
use Rattle.keys.specs.Named.{shift_l, shift_r, ctrl_l, ctrl_r, alt_l, alt_r}
use Rattle.record.specs.Views.{Keys}

-- A key is held, by the flags,
abbrev pub held_at : List ℕ → ℕ → Bool
held_at held key = not (eqb (get_or held key 0) 0)

-- and by the keys of the record.
abbrev pub is_held : Keys → ℕ → Bool
is_held k key = held_at k.held key

-- The flags with a key held, and with a key not held any more.
abbrev pub key_down : List ℕ → ℕ → List ℕ
key_down held key = set held key 1

abbrev pub key_up : List ℕ → ℕ → List ℕ
key_up held key = set held key 0

-- A flag that is not 0 counts 1.
abbrev pub flag_of : ℕ → ℕ
flag_of flag = pick (eqb flag 0) 0 1

-- The modifier keys among the held ones, as the encoder takes them.
unfoldable pub modifiers_of : List ℕ → ℕ
modifiers_of held =
    flag_of (get_or held shift_l 0) + 2 * flag_of (get_or held shift_r 0) + 4 * flag_of (get_or held ctrl_l 0)
    + 8 * flag_of (get_or held ctrl_r 0) + 16 * flag_of (get_or held alt_l 0) + 32 * flag_of (get_or held alt_r 0)

-- How many of the keys 1 to n are held,
unfoldable pub held_to : ℕ → List ℕ → ℕ
held_to zero held = 0
held_to (suc n) held = held_to n held + flag_of (get_or held (suc n) 0)

-- and of all keys.
abbrev pub held_count : List ℕ → ℕ
held_count held = held_to last_key held
