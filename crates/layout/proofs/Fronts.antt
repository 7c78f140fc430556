-- What a call puts back, behind the parts of the record that stay, makes a record's bytes. Assumes nothing.
use mathlib.Core.Path.{◌≡◌, ap, ◌∙◌}
use mathlib.Core.List.{List, ◌++◌, append_assoc}
use Prim.Native.Nat.{ℕ, suc, ◌+◌}
use lib.ListN.{take}
use lib.Seq.{take-add}
use Rattle.keys.specs.Keys.{last_key}
use Rattle.record.specs.declared.Dock.{Dock}
use Rattle.layout.specs.Layout.{types_at, closed_at, counts_at, held_at, part, map_in, types_in, closed_in, counts_in, rest_bytes, bytes_of}

-- One part more that stays.
front : (l : List ℕ) (at n : ℕ) (r : List ℕ) → take (at + n) l ++ r ≡ take at l ++ (part at n l ++ r)
front l at n r = ap (λ (x : List ℕ). x ++ r) (take-add at n l) ∙ append_assoc (take at l) (part at n l) r

-- Of a record with the map of the record in the bytes, with its types too, and also with its contacts.
module _ (l : List ℕ) (d : Dock) (map : d.map ≡ map_in l) where
  pub types_put : take types_at l ++ (d.types ++ (d.closed ++ (d.counts ++ (d.held ++ rest_bytes d.rest)))) ≡ bytes_of d
  unfolding bytes_of
  types_put = rw map

  module _ (types : d.types ≡ types_in l) where
    pub contacts_put : take closed_at l ++ (d.closed ++ (d.counts ++ (d.held ++ rest_bytes d.rest))) ≡ bytes_of d
    unfolding bytes_of
    contacts_put = front l types_at (suc last_key) _ ∙ rw (map, types)

    pub held_put : d.closed ≡ closed_in l → d.counts ≡ counts_in l → take held_at l ++ (d.held ++ rest_bytes d.rest) ≡ bytes_of d
    unfolding bytes_of
    held_put closed counts =
        front l counts_at 144 _ ∙ front l closed_at 18 _ ∙ front l types_at (suc last_key) _ ∙ rw (map, types, closed, counts)
