-- A promise of a record that is put together from its parts leaves no second answer: a law for each word that such promises use.
-- Assumes nothing.
use Prim.Native.Nat.{ℕ}
use mathlib.Core.Path.{◌≡◌, ap}
use mathlib.Core.List.{List}
use Rattle.basics.proofs.Once.{one_answer}
use Rattle.record.specs.declared.Dock.{Dock}
use Rattle.record.specs.Views.{keys_with, Keys, outgoing_of}
use Rattle.record.specs.Parts.{dock_with}
use Rattle.record.specs.declared.Outgoing.{Outgoing}
use Rattle.record.specs.declared.Rest.{Rest}

-- `dock_with`: a record fixes the parts that it is put together from.
pub parts_once : {stated : Dock} (map closed counts held types map' closed' counts' held' types' : List ℕ) (rest rest' : Rest)
    → dock_with map closed counts held types rest ≡ stated → dock_with map' closed' counts' held' types' rest' ≡ stated
    → (map ≡ map') × (closed ≡ closed') × (counts ≡ counts') × (held ≡ held') × (types ≡ types') × (rest ≡ rest')
parts_once map closed counts held types map' closed' counts' held' types' rest rest' p q =
    let e = one_answer p q in (
      ap (λ (d : Dock). d.map) e,
      ap (λ (d : Dock). d.closed) e,
      ap (λ (d : Dock). d.counts) e,
      ap (λ (d : Dock). d.held) e,
      ap (λ (d : Dock). d.types) e,
      ap (λ (d : Dock). d.rest) e,
    )

-- `keys_with`: so do the keys.
pub keys_once : {stated : Keys} (held held' : List ℕ) (outgoing outgoing' : Outgoing)
    → keys_with held outgoing ≡ stated → keys_with held' outgoing' ≡ stated → (held ≡ held') × (outgoing ≡ outgoing')
keys_once held held' outgoing outgoing' p q =
    let e = one_answer p q in
    (ap (λ (k : Keys). k.held) e, ap outgoing_of e)
