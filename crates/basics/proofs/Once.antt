-- No promise leaves a second answer: a law for each shape that promises have. Others, of parts that are lent, stand with their words.
-- Assumes nothing.
use Prim.Native.Nat.{ℕ}
use mathlib.Core.Path.{◌≡◌, refl, sym, ap, ◌∙◌}
use mathlib.Core.Bool.{Bool, true, false}
use mathlib.Core.List.{List}
use lib.ListN.{length, get_or}
use lib.Seq.{ext_get_or}
use Rattle.std.specs.Prelude.{Option, Some, None, MatchOption}
use Rattle.std.specs.Option.{option_map}
use Rattle.basics.specs.Said.{Said, Answers}

-- One equation with a definition.
pub one_answer : {A : Type 0} {stated first second : A} → first ≡ stated → second ≡ stated → first ≡ second
one_answer e f = e ∙ sym f

-- The same with what the answer says.
pub answers_once : {A : Type 0} {says : A → Said} {stated first second : A} {tabled : Said}
    → Answers says first stated tabled → Answers says second stated tabled → first ≡ second
answers_once p q = one_answer p.answer q.answer

-- How such a promise is met: the answer is the one stated, and that says what is to be said.
pub answering : {A : Type 0} {says : A → Said} {r stated : A} {tabled : Said} → says stated ≡ tabled → r ≡ stated → Answers says r stated tabled
answering {says = says} s e = record { answer = e; said = ap says e ∙ s }

-- A list of a known length, place by place.
pub places_once : (stated first second : List ℕ) → length first ≡ length second
    → ((i : ℕ) → get_or first i 0 ≡ get_or stated i 0) → ((i : ℕ) → get_or second i 0 ≡ get_or stated i 0) → first ≡ second
places_once stated first second e p q = ext_get_or 0 first second e (λ i h. one_answer (p i) (q i))

-- What is found where a test says that it is there, by what it shows: both find it, or neither does.
pub found_once : {A B : Type 0} (shows : A → B) (there : Bool) (stated : B) (first second : Option A)
    → MatchOption first (there ≡ false) (λ found. (there ≡ true) × (shows found ≡ stated))
    → MatchOption second (there ≡ false) (λ found. (there ≡ true) × (shows found ≡ stated)) → option_map shows first ≡ option_map shows second
found_once shows there stated None None p q = refl
found_once shows there stated (Some a) (Some b) p q = ap Some (one_answer p.1 q.1)
found_once shows there stated None (Some b) p q = cc
found_once shows there stated (Some a) None p q = cc
