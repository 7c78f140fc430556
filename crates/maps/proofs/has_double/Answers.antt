use mathlib.Core.Path.{refl}
use native.Mathlib.Omega.{arith}
use lib.ListN.{length-set}
use Rattle.basics.proofs.Limits.{up_to_at}
use Rattle.keys.specs.Keys.{last_key}
use Rattle.maps.proofs.Marks.{double_none, zero_unmarked, double_more, double_end}
use Rattle.maps.proofs.has_double.Goals as goal

pub loop-key-init : goal.loop-key-init
loop-key-init c = (refl, refl, double_none c.args.map.now)

pub bounds-seen-place : goal.bounds-seen-place
bounds-seen-place c = omega (arith, up_to_at last_key c.args.map.now c.loop-key.key-index c.requires)

pub bounds-seen-place-in-loop-key : goal.bounds-seen-place-in-loop-key
bounds-seen-place-in-loop-key c = omega (arith, up_to_at last_key c.args.map.now c.loop-key.key-index c.requires)

pub loop-key-preserved : goal.loop-key-preserved
loop-key-preserved c =
    let map = c.args.map.now in
    let l = c.loop-key in
    let key = up_to_at last_key map l.key-index c.requires in
    rw c.from-place.ensures (
      simp length-set l.invariant.0,
      zero_unmarked l.seen _ l.invariant.1,
      double_more map l.seen l.key-index l.double l.invariant.2 (omega arith) _ refl (omega arith) l.invariant.1,
    )

pub returns : goal.returns
returns c = double_end c.args.map.now c.loop-key.seen c.loop-key.key-index c.loop-key.double c.loop-key.invariant.2 (omega arith)
