-- `reading::is_record` meets its contract: its tests are those of the definition. Assumes nothing.
use mathlib.Core.Path.{sym, ap, ◌∙◌}
use Rattle.range.specs.Range.{good_rest}
use Rattle.layout.proofs.Records.{another_size, joined_record}
use Rattle.layout.proofs.reading.is_record.Goals as goal

pub returns-in-None : goal.returns-in-None
returns-in-None c = sym (another_size _ c.in-None.ensures.cases)

pub returns-in-Some : goal.returns-in-Some
returns-in-Some c = joined_record _ _ c.in-Some.ensures.cases _ _ c.all_up_to.ensures (c.is_good_rest.ensures ∙ ap good_rest c.rest_in.ensures)
