-- Every marked example comes out as stated. Assumes nothing.
use mathlib.Core.Path.{◌≡◌, refl}
use mathlib.Core.List.{map}
use lib.Count.{ones, ones_in}
use Rattle.phantom.specs.Phantom.{shares_any, is_phantom}
use Rattle.keying.specs.Repeat.{delay_of, interval_of}
use Rattle.queue.specs.Queues.{pushed_to, last_replaced}
use Rattle.keys.specs.Keys.{rows, row_of, code_in}
use Rattle.frames.specs.Frames.{packed_of, parity}
use Rattle.codes.specs.Codes.{encode, bytes_of, form_of, cursor_form, shift_form, before, after, make_of, break_of, prefix, code_of, sends_release}
use Rattle.marked.specs.Examples.{Example, examples}

pub all_as_stated : map (λ (e : Example). e.given) examples ≡ map (λ (e : Example). e.stated) examples
unfolding examples packed_of parity ones ones_in encode bytes_of form_of cursor_form shift_form before after make_of break_of prefix code_of sends_release code_in row_of rows delay_of interval_of is_phantom shares_any pushed_to last_replaced
all_as_stated = refl
