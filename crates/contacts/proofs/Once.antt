-- `contacts`: a promise of contacts whose two arrays are lent leaves no second answer. Assumes nothing.
use Prim.Native.Nat.{ℕ}
use mathlib.Core.Path.{◌≡◌, ap}
use mathlib.Core.List.{List}
use Rattle.basics.proofs.Once.{one_answer}
use Rattle.contacts.specs.Counts.{Contacts, contacts}

pub contacts_once : {stated : Contacts} (closed closed' counts counts' : List ℕ)
    → contacts closed counts ≡ stated → contacts closed' counts' ≡ stated → (closed ≡ closed') × (counts ≡ counts')
contacts_once closed closed' counts counts' p q =
    let e = one_answer p q in
    (ap (λ (k : Contacts). k.closed) e, ap (λ (k : Contacts). k.counts) e)
