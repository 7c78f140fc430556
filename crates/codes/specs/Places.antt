-- What the rules see of the bytes of an action: places, and how many are taken. Assumes nothing.
use Rattle.std.specs.Prelude.{ℕ, List}

pub record Places : Type 0 where
  pub bytes : List ℕ
  pub length : ℕ
