-- Parts put in front of those behind them. Assumes nothing.
use mathlib.Core.Path.{◌≡◌, refl, ◌∙◌}
use mathlib.Core.Bool.{Bool, true, false}
use mathlib.Core.List.{List, ◌++◌, append-nil}
use Prim.Native.Nat.{ℕ, ◌+◌, ◌≤◌}
use native.Mathlib.Omega.{arith}
use borrow.Rule.Slice.PartMut.{put_mid}
use mir.Val.{bool_byte}
use lib.ListN.{length, take, drop, drop_of_length-le}
use lib.Seq.{take-append-le, take-take, drop-drop, drop_at, length-take-le}
use Rattle.record.specs.declared.Rest.{Rest}
use Rattle.layout.specs.Layout.{flag_of, small_of}

-- A flag as a byte, as the code and as the definition has it.
pub flag_byte : (on : Bool) → bool_byte on ≡ flag_of on
flag_byte true = refl
flag_byte false = refl

pub small_length : (rest : Rest) → length (small_of rest) ≡ 14
unfolding small_of
small_length rest = refl

-- The last bytes of all, by their copy.
pub put_last : (l copy part : List ℕ) (at n : ℕ) → copy ≡ part → length part ≡ n → at + n ≡ length l → put_mid at n l copy ≡ take at l ++ part
put_last l copy part at n e p h = rw (e, drop-drop n at l, drop_of_length-le l {i = at + n} (omega (arith, h)), append-nil part)

-- One part more, in front of what was put: what stands before it stays.
pub put_before : (l was behind copy part : List ℕ) (at n : ℕ) → was ≡ take (at + n) l ++ behind → copy ≡ part → length part ≡ n → at + n ≤ length l
    → put_mid at n was copy ≡ take at l ++ (part ++ behind)
put_before l was behind copy part at n f e p h =
    let t : length (take (at + n) l) ≡ at + n = length-take-le (at + n) l h in
    let a : take at (take (at + n) l ++ behind) ≡ take at l = take-append-le at (take (at + n) l) behind (omega (arith, t)) ∙ take-take at (at + n) l (omega arith) in
    let b : drop n (drop at (take (at + n) l ++ behind)) ≡ behind = drop-drop n at _ ∙ drop_at (take (at + n) l) behind (at + n) t in
    rw (f, e, a, b)
