-- `basics::all_up_to` meets its contract. The loop's invariant: no entry is over the limit if none so far was and none still to come
-- is. Assumes nothing.
use mathlib.Core.Path.{◌≡◌}
use lib.ListN.{drop}
use Rattle.basics.specs.Choice.{both}
use Rattle.basics.specs.Lists.{all_up_to}
use Rattle.basics.proofs.all_up_to.Given as goal

abbrev pub invariant-loop-entry : goal.invariant-loop-entry
invariant-loop-entry l = all_up_to l.limit l.list ≡ both l.good (all_up_to l.limit (drop l.entry-index l.list))
