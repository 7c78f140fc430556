-- `keying::let_go` meets its contract: its test is whether the key was the one that repeats. Assumes nothing.
use mathlib.Core.Path.{ap}
use Rattle.record.specs.Views.{keys_of}
use Rattle.record.specs.Parts.{with_keys}
use Rattle.keying.proofs.Changes.{repeating_let_go, other_let_go}
use Rattle.keying.proofs.let_go.Goals as goal

pub returns-then-dock-key : goal.returns-then-dock-key
returns-then-dock-key c =
    let d = c.args.dock.now in
    ap (with_keys d) (repeating_let_go (keys_of d) c.args.key _ c.set_held.ensures c.if-dock-key.true)

pub returns-else-dock-key : goal.returns-else-dock-key
returns-else-dock-key c =
    let d = c.args.dock.now in
    ap (with_keys d) (other_let_go (keys_of d) c.args.key _ c.set_held.ensures c.if-dock-key.false)
