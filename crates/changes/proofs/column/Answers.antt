use Prim.Native.Nat.{◌<◌}
use native.Mathlib.Omega.{arith}
use lib.Bits.{xor_lt}
use Rattle.changes.proofs.TurnedRows.{lowest_small, fewer}
use Rattle.changes.proofs.Turning.{still_ready, entry_small, rows_begin, row_turns, rows_end}
use Rattle.changes.proofs.column.Goals as goal

pub loop-turned-init : goal.loop-turned-init
loop-turned-init c =
    record { byte = xor_lt 8 c.args.was _ (omega arith) (omega arith); going = rows_begin c.args.dock.now c.requires.ready c.requires.entries c.args.c c.args.was _ }

pub bounds-dock-c-in-loop-turned : goal.bounds-dock-c-in-loop-turned
bounds-dock-c-in-loop-turned c =
    let l = c.loop-turned in
    omega (arith, lowest_small l.turned (omega arith) l.invariant.byte)

pub overflow_shr-is : goal.overflow_shr-is
overflow_shr-is c =
    let l = c.loop-turned in
    lowest_small l.turned (omega arith) l.invariant.byte

pub contact_turned-requires : goal.contact_turned-requires
contact_turned-requires c =
    let d = c.args.dock.now in
    let l = c.loop-turned in
    let only = l.invariant.going.only in
    record {
      ready = still_ready d c.requires.ready c.requires.entries l.dock only l.invariant.going.good;
      number = entry_small d c.requires.ready c.requires.entries l.dock only _;
    }

pub loop-turned-smaller : goal.loop-turned-smaller
loop-turned-smaller c = fewer c.loop-turned.turned (omega arith)

pub loop-turned-preserved : goal.loop-turned-preserved
loop-turned-preserved c =
    let p = c.requires in
    let l = c.loop-turned in
    let some : 0 < l.turned = omega arith in
    record {
      byte = omega (arith, fewer l.turned some);
      going = row_turns c.args.dock.now p.ready p.entries c.args.c c.args.was _ l.turned l.dock l.invariant.going some l.invariant.byte _ c.contact_turned.ensures;
    }

pub returns : goal.returns
returns c =
    let l = c.loop-turned in
    rows_end c.args.dock.now c.requires.ready c.requires.entries c.args.c c.args.was _ l.turned l.dock l.invariant.going (omega arith)
