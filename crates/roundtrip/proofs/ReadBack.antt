-- Read back, the bytes of a key give that key and that event. Assumes nothing.
use mathlib.Core.Path.{◌≡◌, refl, ap}
use mathlib.Core.Logic.{◌⊎◌, inl, inr}
use mathlib.Core.Bool.{Bool}
use mathlib.Core.List.{List, [], ◌∷◌, map}
use Prim.Native.Nat.{ℕ, zero, suc, ◌+◌, ◌≤◌}
use native.Mathlib.Nat.{not-suc-le-zero}
use native.Mathlib.Omega.{arith}
use lib.ListN.{get_or}
use Rattle.basics.specs.Choice.{pick}
use Rattle.basics.specs.Lists.{map_from}
use Rattle.basics.proofs.Cases.{one_to_three}
use Rattle.basics.proofs.Tables.{at_each_place}
use Rattle.keys.specs.Keys.{rows, row_of, no_row, code_in, last_key}
use Rattle.keys.proofs.Laws.{rows_length}
use Rattle.lookup.specs.Lookup.{key_with, first_with}
use Rattle.codes.specs.declared.Action.{Action}
use Rattle.codes.specs.declared.Action.TheVariants.{Press, Release, Repeat}
use Rattle.codes.specs.declared.Form.{Form}
use Rattle.codes.specs.declared.Form.TheVariants.{Plain, ShiftLeft, ShiftRight, ShiftBoth, NumLock, Other}
use Rattle.codes.specs.Codes.{bytes_of, encode, before, after, make_of, break_of, prefix, code_of, pause_bytes, sends_release, may_repeat, form_of, has_code}
use Rattle.reader.specs.declared.Event.{Event}
use Rattle.reader.specs.Reader.{read_byte, in_set1, in_set2, in_set3, heard}
use Rattle.reader.specs.Reading.{Run, read_all}
use Rattle.roundtrip.specs.Wanted.{wanted}

-- Every action, every form and every type, and what is computed over each of them.
actions : List Action
actions = Press ∷ Release ∷ Repeat ∷ []

forms : List Form
forms = Plain ∷ ShiftLeft ∷ ShiftRight ∷ ShiftBoth ∷ NumLock ∷ Other ∷ []

types : List ℕ
types = 0 ∷ 1 ∷ 2 ∷ 3 ∷ []

module _ {B : Type 0} where
  each_action : (f g : Action → B) → map f actions ≡ map g actions → (a : Action) → f a ≡ g a
  unfolding actions
  each_action f g e Press = ap (λ l. get_or l 0 (f Press)) e
  each_action f g e Release = ap (λ l. get_or l 1 (f Press)) e
  each_action f g e Repeat = ap (λ l. get_or l 2 (f Press)) e

  each_form : (f g : Form → B) → map f forms ≡ map g forms → (x : Form) → f x ≡ g x
  unfolding forms
  each_form f g e Plain = ap (λ l. get_or l 0 (f Plain)) e
  each_form f g e ShiftLeft = ap (λ l. get_or l 1 (f Plain)) e
  each_form f g e ShiftRight = ap (λ l. get_or l 2 (f Plain)) e
  each_form f g e ShiftBoth = ap (λ l. get_or l 3 (f Plain)) e
  each_form f g e NumLock = ap (λ l. get_or l 4 (f Plain)) e
  each_form f g e Other = ap (λ l. get_or l 5 (f Plain)) e

  each_type : (f g : ℕ → B) → map f types ≡ map g types → (t : ℕ) → t ≤ 3 → f t ≡ g t
  unfolding types
  each_type f g e zero h = ap (λ l. get_or l 0 (f 0)) e
  each_type f g e (suc zero) h = ap (λ l. get_or l 1 (f 0)) e
  each_type f g e (suc (suc zero)) h = ap (λ l. get_or l 2 (f 0)) e
  each_type f g e (suc (suc (suc zero))) h = ap (λ l. get_or l 3 (f 0)) e
  each_type f g e (suc (suc (suc (suc t)))) h = absurd (omega arith)

  each_key : (f g : ℕ → B) → map_from (λ key r. f key) 1 rows ≡ map_from (λ key r. g key) 1 rows
      → (key : ℕ) → 1 ≤ key → key ≤ last_key → f key ≡ g key
  each_key f g e zero low high = absurd (not-suc-le-zero low)
  each_key f g e (suc k) low high =
      let one_more : 1 + k ≡ suc k = omega arith in
      rw one_more at (at_each_place (λ key r. f key) (λ key r. g key) no_row rows 1 e k (rw rows_length high))

-- The reader is back where it began, and has noted these events.
abbrev pub noting : List Event → Run
noting events = record { state = 0; events = events }

-- In sets 1 and 2 the reading of each key, action and form is the one wanted: one equation of two computed lists.
Holds : ℕ → ℕ → Type 0
Holds set type =
    map_from (λ key r. map (λ action. map (λ form. read_all set 0 (bytes_of set key action type form)) forms) actions) 1 rows
    ≡ map_from (λ key r. map (λ action. map (λ form. noting (wanted set key action type)) forms) actions) 1 rows

in_set_1 : (type : ℕ) → Holds 1 type
unfolding Holds rows row_of code_in key_with first_with actions forms bytes_of before after make_of break_of prefix code_of pause_bytes sends_release may_repeat read_all read_byte in_set1 heard wanted
in_set_1 type = refl

in_set_2 : (type : ℕ) → Holds 2 type
unfolding Holds rows row_of code_in key_with first_with actions forms bytes_of before after make_of break_of prefix code_of pause_bytes sends_release may_repeat read_all read_byte in_set2 heard wanted
in_set_2 type = refl

-- In set 3 forms play no part, and types do; media keys send nothing.
in_three : ℕ → Action → ℕ → List ℕ
in_three key action type = pick (has_code 3 key) (bytes_of 3 key action type Plain) []

in_set_3 : map_from (λ key r. map (λ action. map (λ type. read_all 3 0 (in_three key action type)) types) actions) 1 rows
    ≡ map_from (λ key r. map (λ action. map (λ type. noting (wanted 3 key action type)) types) actions) 1 rows
unfolding in_three rows row_of code_in key_with first_with actions types bytes_of before after make_of break_of prefix code_of pause_bytes sends_release may_repeat read_all read_byte in_set3 wanted
in_set_3 = refl

module _ (key : ℕ) (low : 1 ≤ key) (high : key ≤ last_key) (action : Action) where
  at_form : (set type : ℕ) → Holds set type → (form : Form) → read_all set 0 (bytes_of set key action type form) ≡ noting (wanted set key action type)
  unfolding Holds
  at_form set type holds =
      each_form (λ f. read_all set 0 (bytes_of set key action type f)) (λ f. noting (wanted set key action type))
      (each_action (λ a. map (λ f. read_all set 0 (bytes_of set key a type f)) forms) (λ a. map (λ f. noting (wanted set key a type)) forms)
      (each_key (λ k. map (λ a. map (λ f. read_all set 0 (bytes_of set k a type f)) forms) actions)
      (λ k. map (λ a. map (λ f. noting (wanted set k a type)) forms) actions) holds key low high)
      action)

  at_type : (type : ℕ) → type ≤ 3 → read_all 3 0 (in_three key action type) ≡ noting (wanted 3 key action type)
  at_type =
      each_type (λ t. read_all 3 0 (in_three key action t)) (λ t. noting (wanted 3 key action t))
      (each_action (λ a. map (λ t. read_all 3 0 (in_three key a t)) types) (λ a. map (λ t. noting (wanted 3 key a t)) types)
      (each_key (λ k. map (λ a. map (λ t. read_all 3 0 (in_three k a t)) types) actions)
      (λ k. map (λ a. map (λ t. noting (wanted 3 k a t)) types) actions) in_set_3 key low high)
      action)

  -- In sets 1 and 2 whatever the type is, be it a number that is none.
  pub read_back_typeless : (set : ℕ) → (set ≡ 1) ⊎ (set ≡ 2) → (type modifiers : ℕ) (lock : Bool)
      → read_all set 0 (encode set key action type modifiers lock) ≡ noting (wanted set key action type)
  unfolding encode
  read_back_typeless set (inl e) type modifiers lock = rw e (at_form 1 type (in_set_1 type) (form_of 1 key modifiers lock))
  read_back_typeless set (inr e) type modifiers lock = rw e (at_form 2 type (in_set_2 type) (form_of 2 key modifiers lock))

  -- The demand: in every set, for every key, action, type and choice of modifiers and Num Lock.
  pub read_back : (set type modifiers : ℕ) (lock : Bool) → 1 ≤ set → set ≤ 3 → type ≤ 3
      → read_all set 0 (encode set key action type modifiers lock) ≡ noting (wanted set key action type)
  unfolding encode form_of in_three
  read_back set type modifiers lock low high h =
      one_to_three (λ (n : ℕ). read_all n 0 (encode n key action type modifiers lock) ≡ noting (wanted n key action type))
      (read_back_typeless 1 (inl refl) type modifiers lock) (read_back_typeless 2 (inr refl) type modifiers lock) (at_type type h) set low high
