-- What an answer says, in the numbers of the rules (docs/RULES.md, sections 9 and 11). Assumes nothing.
use Rattle.std.specs.Prelude.{ℕ, zero, suc, ◌≡◌, List, [], ℤ, pos, negsuc}

-- A number of a table, and the values that come with it.
pub record Said : Type 0 where
  pub number : ℕ
  pub values : List ℕ

-- In the table of refusals what is accepted has the number 0, and may have values; a refusal has its number alone.
abbrev pub accepted : List ℕ → Said
accepted values = record { number = 0; values = values }

abbrev pub refused : ℕ → Said
refused number = record { number = number; values = [] }

-- A refusal as C sees it: minus its number.
abbrev pub minus : ℕ → ℤ
minus zero = pos zero
minus (suc n) = negsuc n

-- What a function promises whose answer is an enum: the answer r is the one stated, and by the list of what each case says it has
-- the number and the values of the table.
pub record Answers {A : Type 0} (says : A → Said) (r stated : A) (tabled : Said) : Type 0 where
  pub answer : r ≡ stated
  pub said : says r ≡ tabled
