use mathlib.Core.Path.{◌≡◌}
use native.Mathlib.Omega.{arith}
use borrow.Author.Rules.{rules}
use lib.ListN.{length}
use Rattle.queue.proofs.Checking.{seen_none, seen_more, seen_all}
use Rattle.queue.proofs.arrays.is_tidy_array.Goals as goal

pub loop-i-init : goal.loop-i-init
loop-i-init g c = seen_none _ _ _

pub loop-i-preserved : goal.loop-i-preserved
loop-i-preserved g c =
    let b = c.args.bytes.now in
    let l = c.loop-i in
    let long : length b ≡ g.row.PLACES = search rules in
    seen_more g.row.PLACES b c.args.count l.i (omega arith) l.good l.invariant

pub returns : goal.returns
returns g c =
    let b = c.args.bytes.now in
    let long : length b ≡ g.row.PLACES = search rules in
    seen_all g.row.PLACES b c.args.count long _ c.loop-i.i (omega arith) c.loop-i.invariant
