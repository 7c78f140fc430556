-- `contacts::still` meets its contract: eight zeros written at once are the counts made anew one by one. Assumes nothing.
use mathlib.Core.Path.{◌≡◌, refl, ap, ◌∙◌}
use Prim.Native.Nat.{ℕ, ◌+◌, ◌*◌, ◌-◌}
use native.Mathlib.Omega.{arith}
use lib.ListN.{length, take, drop, replicate, length-drop}
use lib.Seq.{length-take-le}
use Rattle.std.proofs.lemmas.Slice.{put_mid-paste}
use Rattle.contacts.proofs.Renewals.{zeros_renewed}
use Rattle.contacts.proofs.still.Goals as goal

pub returns : goal.returns
returns c =
    let first = 8 * c.args.column in
    let counts = c.args.counts.now in
    let eight : length (take (first + 8 - first) (drop first counts)) ≡ 8 = length-take-le (first + 8 - first) (drop first counts) (simp length-drop (omega arith)) ∙ omega arith in
    put_mid-paste first _ counts c.fill.new.self (replicate 8 0) 8
    (c.fill.ensures.after (λ y e. e) ∙ ap (λ (n : ℕ). replicate n 0) eight) (omega arith) refl
    ∙ zeros_renewed first 8 8 counts (omega arith) (omega arith)
