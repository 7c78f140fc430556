use mathlib.Core.Path.{◌∙◌}
use native.Mathlib.Omega.{arith}
use Rattle.changes.proofs.Turning.{columns_none, ready_to, entries_to, column_left, column_turned, columns_all}
use Rattle.changes.proofs.turns.Goals as goal
use Rattle.changes.proofs.turns.Goals.{then-before-dock, else-before-dock}

pub loop-c-init : goal.loop-c-init
loop-c-init c = columns_none _ _

pub column-requires : goal.column-requires
column-requires c =
    let d = c.args.dock.now in
    let p = c.requires in
    let l = c.loop-c in
    record {
      ready = ready_to d p.ready p.entries c.args.was.now l.c l.dock l.invariant;
      column = omega arith;
      entries = entries_to d p.ready p.entries c.args.was.now l.c l.dock l.invariant;
    }

pub loop-c-preserved : goal.loop-c-preserved
loop-c-preserved c =
    let d = c.args.dock.now in
    let p = c.requires in
    let l = c.loop-c in
    elim c.if-before-dock.branch [
      | then-before-dock w ↦ column_turned d p.ready p.entries c.args.was.now l.c l.dock l.invariant _ (w.dock-is ∙ w.column.ensures)
      | else-before-dock w ↦ column_left d p.ready p.entries c.args.was.now l.c l.dock l.invariant _ w.if-before-dock.false w.dock-is
    ]

pub returns : goal.returns
returns c =
    let l = c.loop-c in
    columns_all c.args.dock.now c.requires.ready c.requires.entries c.args.was.now l.c l.dock l.invariant (omega arith)
