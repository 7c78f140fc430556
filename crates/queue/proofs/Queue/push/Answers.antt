-- `queue::Queue::push` meets its contract: where a sequence fits its bytes stand behind those that wait, else the mark is put. Assumes nothing.
use mathlib.Core.Path.{◌≡◌, sym, ◌∙◌}
use native.Mathlib.Omega.{arith}
use borrow.Author.Rules.{rules}
use lib.ListN.{length}
use Rattle.queue.specs.Queues.{contents}
use Rattle.queue.proofs.Meaning.{tidy_short}
use Rattle.queue.proofs.Pushing.{pushed_by_copying, pushed_by_marking, some_waits}
use Rattle.queue.proofs.Queue.push.Goals as goal

pub fits-requires : goal.fits-requires
fits-requires c = tidy_short _ c.requires

pub mark_last-requires : goal.mark_last-requires
mark_last-requires c =
    record { tidied = c.requires; some = some_waits c.args.self.now _ (omega arith) (sym c.fits.ensures.waits ∙ c.if-not-fits.true) }

pub returns-then-not-fits : goal.returns-then-not-fits
returns-then-not-fits c =
    let a = c.args in
    let places : length a.self.now.bytes ≡ 16 = search rules in
    let places-s : length c.sequence.inside.bytes ≡ 8 = search rules in
    let full = sym c.fits.ensures.waits ∙ c.if-not-fits.true in
    rw (← c.sequence.view_is) (pushed_by_marking a.self.now c.requires places _ c.sequence.invariant places-s a.mark full _ c.mark_last.ensures)

pub returns : goal.returns
unfolding contents
returns c =
    let a = c.args in
    let places : length a.self.now.bytes ≡ 16 = search rules in
    let places-s : length c.sequence.inside.bytes ≡ 8 = search rules in
    let room = sym c.fits.ensures.waits ∙ c.if-not-fits.false in
    rw (← c.sequence.view_is) (pushed_by_copying a.self.now c.requires places _ c.sequence.invariant places-s a.mark room _ c.copy_from_slice.ensures.after)
