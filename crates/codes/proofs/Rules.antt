-- What is cited wherever bytes are put one after another: how many they are, and what is held then. Assumes nothing.
use Rattle.codes.proofs.Adding.{adding_length, adding_append, adding_holding, none_held}
use Rattle.codes.proofs.Lengths.{prefix_short, make_short, break_short, before_short, make_behind_short, release_short}

pub ruleset joins = (adding_length, adding_append, adding_holding, none_held, prefix_short, make_short, break_short, before_short, make_behind_short, release_short)
