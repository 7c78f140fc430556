-- A dock that has just woken up is in its range, and so is the dock at power-on. Assumes nothing.
use mathlib.Core.Path.{◌≡◌, refl}
use mathlib.Core.Bool.{true}
use mathlib.Core.List.{List, [], ◌∷◌}
use Prim.Native.Nat.{ℕ}
use Rattle.basics.specs.Lists.{all_up_to}
use Rattle.keys.specs.Keys.{last_key}
use Rattle.replies.specs.declared.Replies.{Replies}
use Rattle.queue.specs.Queues.{tidy, queue_of}
use Rattle.replies.specs.Replies.{tidy_replies, replies_of}
use Rattle.record.specs.Power.{count_up, plain_map, fresh_with, power_on}
use Rattle.range.specs.Range.{good_mode, good_outgoing, in_range}
use Rattle.range.proofs.Ranges.{in_range_lem}

pub fresh_in_range : (map : List ℕ) (replies : Replies) → all_up_to last_key map ≡ true → tidy_replies replies ≡ true → in_range (fresh_with map replies) ≡ true
unfolding fresh_with good_outgoing good_mode tidy queue_of all_up_to
fresh_in_range map replies good short = in_range_lem (fresh_with map replies) good refl refl short refl

pub power_on_in_range : in_range power_on ≡ true
unfolding power_on plain_map count_up all_up_to tidy_replies replies_of
power_on_in_range = fresh_in_range plain_map (replies_of (0xaa ∷ [])) refl refl
