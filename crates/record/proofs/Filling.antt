-- A map of zeros filled with the keys of the plain panel, one after the other. Assumes nothing.
use Prim.Native.Nat.{ℕ, zero, suc, ◌+◌}
use mathlib.Core.Path.{◌≡◌, refl}
use mathlib.Core.List.{List, [], ◌∷◌}
use lib.ListN.{set, replicate}
use native.Mathlib.Numerals.{add-one}
use Rattle.replies.specs.declared.Replies.{Replies}
use Rattle.replies.specs.Replies.{replies_of}
use Rattle.record.specs.declared.Rest.{Rest}
use Rattle.record.specs.Parts.{dock_with}
use Rattle.record.specs.Power.{count_up, plain_map, default_types, fresh_rest, fresh_with, power_on}

-- The positions below this one are filled.
unfoldable pub filled_to : ℕ → List ℕ → List ℕ
filled_to zero map = map
filled_to (suc position) map = set (filled_to position map) position (suc position)

pub filled_none : (map : List ℕ) → map ≡ filled_to 0 map
unfolding filled_to
filled_none map = refl

pub filled_more : (map before : List ℕ) (position : ℕ) → map ≡ filled_to position before
    → set map position (position + 1) ≡ filled_to (position + 1) before
unfolding filled_to
filled_more map before position i = rw (i, add-one)

-- All of them, and the map is the plain one.
pub filled_plain : filled_to 104 (replicate 144 0) ≡ plain_map
unfolding filled_to plain_map count_up
filled_plain = refl

-- So a record with that map, and with what power-on has beside it, is that of power-on.
pub filled_power_on : (map : List ℕ) (position : ℕ) (types : List ℕ) (rest : Rest) (replies : Replies)
    → map ≡ filled_to position (replicate 144 0) → position ≡ 104
    → types ≡ default_types → rest ≡ fresh_rest replies → replies ≡ replies_of (0xaa ∷ [])
    → dock_with map (replicate 18 0) (replicate 144 0) (replicate 144 0) types rest ≡ power_on
unfolding power_on fresh_with
filled_power_on map position types rest replies i all t r w = rw (i, all, filled_plain, t, r, w)
