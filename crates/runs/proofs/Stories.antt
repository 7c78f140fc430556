-- Every story of demand 3 comes out as it is told: so its premises can be met, and this is what comes of them. Assumes nothing.
use mathlib.Core.Path.{◌≡◌, refl}
use mathlib.Core.List.{map}
use Rattle.runs.specs.Bytes.{given_in}
use Rattle.runs.specs.Stories.{Story, outcome, flagged, said_from}
use Rattle.runs.specs.Told.{stories}
use Rattle.runs.proofs.Computing.{run_on_values}

pub all_as_told : map (λ (s : Story). outcome s.earlier s.calls) stories ≡ map (λ (s : Story). s.end) stories
unfolding run_on_values outcome flagged said_from given_in stories
all_as_told = refl
