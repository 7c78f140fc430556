-- What is typed comes out as it is written. Assumes nothing.
use mathlib.Core.Path.{◌≡◌, refl}
use mathlib.Core.Bool.{true}
use Rattle.runs.specs.Bytes.{key_bytes_of}
use Rattle.runs.proofs.Computing.{run_on_values}
use Rattle.transcripts.specs.Transcripts.{reached, gives, come_out}
use Rattle.transcripts.specs.Typed.{typed, sixteen}

pub all_typed : come_out key_bytes_of typed ≡ true
unfolding run_on_values reached gives come_out typed sixteen
all_typed = refl
