-- No action sends more than 8 bytes, and no part of one more than its share. Assumes nothing.
use mathlib.Core.Bool.{Bool}
use mathlib.Core.List.{◌++◌}
use Prim.Native.Nat.{ℕ, ◌≤◌}
use native.Mathlib.Omega.{arith}
use lib.ListN.{length, length-append}
use Rattle.keys.specs.Keys.{rows, row_of, code_in}
use Rattle.codes.specs.declared.Action.{Action}
use Rattle.codes.specs.declared.Action.TheVariants.{Press, Release, Repeat}
use Rattle.codes.specs.declared.Form.{Form}
use Rattle.codes.specs.declared.Form.TheVariants.{Plain, ShiftLeft, ShiftRight, ShiftBoth, NumLock, Other}
use Rattle.codes.specs.Codes.{prefix, make_of, break_of, before, after, pause_bytes, bytes_of, encode}

pub prefix_short : (code : ℕ) → length (prefix code) ≤ 1
unfolding prefix
prefix_short code = grind arith

pub make_short : (code : ℕ) → length (make_of code) ≤ 2
unfolding make_of
make_short code = grind (arith, length-append, prefix_short)

pub break_short : (set code : ℕ) → length (break_of set code) ≤ 3
unfolding break_of
break_short set code = grind (arith, length-append, prefix_short)

pub before_short : (set : ℕ) (form : Form) → length (before set form) ≤ 6
unfolding before
before_short set Plain = omega arith
before_short set ShiftLeft = grind (arith, break_short)
before_short set ShiftRight = grind (arith, break_short)
before_short set ShiftBoth = grind (arith, length-append, break_short)
before_short set NumLock = grind (arith, make_short)
before_short set Other = omega arith

after_short : (set : ℕ) (form : Form) → length (after set form) ≤ 4
unfolding after
after_short set Plain = omega arith
after_short set ShiftLeft = grind (arith, make_short)
after_short set ShiftRight = grind (arith, make_short)
after_short set ShiftBoth = grind (arith, length-append, make_short)
after_short set NumLock = grind (arith, break_short)
after_short set Other = omega arith

-- PAUSE in both of its forms, in both of its sets.
pause_short : (set : ℕ) (form : Form) → length (pause_bytes set form) ≤ 8
unfolding pause_bytes make_of break_of prefix code_in row_of rows
pause_short set form = grind arith

-- A make behind any wrapping.
pub make_behind_short : (set code : ℕ) (wrapping : Form) → length (before set wrapping ++ make_of code) ≤ 8
make_behind_short set code wrapping = grind (arith, length-append, before_short, make_short)

pub release_short : (set code : ℕ) (form : Form) → length (break_of set code ++ after set form) ≤ 8
release_short set code form = grind (arith, length-append, break_short, after_short)

bytes_short : (set key : ℕ) (action : Action) (type : ℕ) (form : Form) → length (bytes_of set key action type form) ≤ 8
unfolding bytes_of
bytes_short set key Press type form = grind (arith, pause_short, make_behind_short)
bytes_short set key Release type form = grind (arith, release_short)
bytes_short set key Repeat type form = grind (arith, make_short)

-- No action of any key sends more than 8 bytes.
pub encode_short : (set key : ℕ) (action : Action) (type modifiers : ℕ) (lock : Bool)
    → length (encode set key action type modifiers lock) ≤ 8
unfolding encode
encode_short set key action type modifiers lock = grind (arith, bytes_short)
