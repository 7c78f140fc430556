-- Repeats come out as they are written. Assumes nothing.
use mathlib.Core.Path.{◌≡◌, refl}
use mathlib.Core.Bool.{true}
use Rattle.runs.specs.Bytes.{key_bytes_of}
use Rattle.runs.proofs.Computing.{run_on_values}
use Rattle.transcripts.specs.Transcripts.{reached, gives, come_out}
use Rattle.repeats.specs.Repeated.{quickest, slow_again, due, paced}

pub all_due : come_out key_bytes_of due ≡ true
unfolding run_on_values reached gives come_out quickest due
all_due = refl

pub all_paced : come_out key_bytes_of paced ≡ true
unfolding run_on_values reached gives come_out quickest slow_again paced
all_paced = refl
