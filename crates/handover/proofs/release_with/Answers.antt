-- `handover::release_with` meets its contract: the bytes are queued, and the key is let go. Assumes nothing.
use mathlib.Core.Path.{ap, ◌∙◌}
use Rattle.queue.specs.declared.Queue.{Queue}
use Rattle.record.specs.Views.{keys_of}
use Rattle.record.specs.Parts.{with_keys}
use Rattle.keying.specs.Changes.{let_go, released_with}
use Rattle.handover.proofs.Leaving.{pushed_queued}
use Rattle.handover.proofs.release_with.Goals as goal

pub push-requires : goal.push-requires
push-requires c = c.requires.tidied

pub returns : goal.returns
unfolding released_with
returns c =
    let d = c.args.dock.now in
    c.let_go.ensures
    ∙ ap (λ (q : Queue). with_keys d (let_go (keys_of d) c.args.key q)) (pushed_queued d.rest.outgoing.queue _ d.rest.mode _ _ c.mark_of-mark.ensures c.push.ensures)
