-- And so do the replies to the host. Assumes nothing.
use mathlib.Core.Path.{◌≡◌, refl}
use mathlib.Core.Bool.{true}
use Rattle.runs.proofs.Computing.{run_on_values}
use Rattle.transcripts.specs.Transcripts.{reached, gives, come_out, reply_of}
use Rattle.transcripts.specs.Asked.{asked, dialogues}

pub all_asked : come_out reply_of dialogues ≡ true
unfolding run_on_values reached gives come_out asked dialogues
all_asked = refl
