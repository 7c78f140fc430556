-- `queue_with`: a promise of a queue whose bytes are lent leaves no second answer. Assumes nothing.
use Prim.Native.Nat.{ℕ}
use mathlib.Core.Path.{◌≡◌, ap}
use mathlib.Core.List.{List}
use Rattle.basics.proofs.Once.{one_answer}
use Rattle.queue.specs.declared.Queue.{Queue}
use Rattle.queue.specs.Queues.{queue_with}

pub queue_once : {stated : Queue} (bytes bytes' : List ℕ) (count count' : ℕ)
    → queue_with bytes count ≡ stated → queue_with bytes' count' ≡ stated → (bytes ≡ bytes') × (count ≡ count')
queue_once bytes bytes' count count' p q =
    let e = one_answer p q in
    (ap (λ (w : Queue). w.bytes) e, ap (λ (w : Queue). w.length) e)
