-- `host::values::asked_of` meets its contract: a type that is asked for says its command and the code of its key. Assumes nothing.
use Rattle.std.proofs.Common.{rules, tests, sym, ◌∙◌}
use Rattle.lookup.proofs.Found.{found_key}
use Rattle.host.specs.Values.{asked_of}
use Rattle.host.proofs.Rows.{answers}
use Rattle.host.proofs.values.asked_of.Goals as goal

pub returns-in_ok-key-in-251-to-253-default : goal.returns-in_ok-key-in-251-to-253-default
unfolding asked_of
returns-in_ok-key-in-251-to-253-default c =
    let key = found_key _ _ (sym c.in_ok-key-in-251-to-253-default.was ∙ c.key.ensures) in
    answers _ _ _ (search (rules, tests))
