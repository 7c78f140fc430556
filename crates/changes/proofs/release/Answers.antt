-- `changes::release` meets its contract: its bytes are queued, and the key is let go. Assumes nothing.
use mathlib.Core.Path.{ap, ◌∙◌}
use Rattle.record.specs.Views.{keys_of}
use Rattle.record.specs.Parts.{with_keys}
use Rattle.range.proofs.Ranges.{good_keys_queue}
use Rattle.sending.specs.Sending.{sends}
use Rattle.keying.proofs.Changes.{released_by_letting_go}
use Rattle.changes.proofs.release.Goals as goal

pub send_release-requires : goal.send_release-requires
send_release-requires c =
    record { tidied = good_keys_queue (keys_of c.args.dock.now) c.requires.ready.keys; mode = c.requires.ready.mode }

pub returns : goal.returns
unfolding sends
returns c =
    let d = c.args.dock.now in
    c.let_go.ensures ∙ ap (with_keys d) (released_by_letting_go (keys_of d) d.rest.mode c.args.kind c.args.key _ c.send_release.ensures)
