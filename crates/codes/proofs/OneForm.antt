-- A key that has one form sends the bytes of its code, whatever modifiers are held. Assumes nothing.
use mathlib.Core.Path.{◌≡◌}
use mathlib.Core.Bool.{Bool, false}
use mathlib.Core.List.{◌++◌, append-nil}
use Prim.Native.Nat.{ℕ}
use native.Mathlib.Omega.{arith}
use Rattle.basics.proofs.Flags.{both_false}
use Rattle.keys.specs.Keys.{code_in}
use Rattle.codes.specs.declared.Form.TheVariants.{Plain}
use Rattle.codes.specs.Codes.{is_print, break_of, after, form_of, has_forms, code_of, pauses_at_once}

pub one_form : (set key modifiers : ℕ) (lock : Bool) → has_forms set key ≡ false → form_of set key modifiers lock ≡ Plain
unfolding has_forms form_of
one_form set key modifiers lock one = grind arith

pub not_at_once : (set key : ℕ) → has_forms set key ≡ false → pauses_at_once set key ≡ false
unfolding has_forms
not_at_once set key one = grind arith

pub code_plain : (set key : ℕ) → code_of set key Plain ≡ code_in set key
unfolding code_of
code_plain set key = rw (both_false (is_print key))

pub nothing_after : (set code : ℕ) → break_of set code ++ after set Plain ≡ break_of set code
unfolding after
nothing_after set code = append-nil (break_of set code)
