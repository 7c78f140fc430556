-- The kinds of line, and where a line ends (docs/RULES.md, section 12). Assumes nothing.
use Rattle.std.specs.Prelude.{ℕ, zero, suc, ◌+◌, Bool, false, not, List, [], ◌∷◌, eqb, length, get_or, drop}
use Rattle.basics.specs.Choice.{pick, both, either}
use Rattle.text.specs.declared.Kind.{Kind}
use Rattle.text.specs.declared.Kind.TheVariants.{Read, Frame, Scan, Map, Malformed}
use Rattle.digits.specs.Digits.{all_digits}

-- An empty line is a read; 3, 36 or 288 digits are a frame, a scan or a map; anything else is malformed.
unfoldable pub kind_of : List ℕ → Kind
kind_of line =
    pick (eqb (length line) 0) Read
    (pick (all_digits line)
    (pick (eqb (length line) 36) Scan
    (pick (eqb (length line) 3) Frame
    (pick (eqb (length line) 288) Map Malformed)))
    Malformed)

-- A newline stands among n characters from a place on.
unfoldable pub newline_among : List ℕ → ℕ → ℕ → Bool
newline_among text at zero = false
newline_among text at (suc n) = either (newline_among text at n) (eqb (get_or text (at + n) 0) 10)

-- The line at a place ends after n characters: a newline comes next, and none stands among them.
unfoldable pub ends_after : List ℕ → ℕ → ℕ → Bool
ends_after text at n = both (eqb (get_or text (at + n) 0) 10) (not (newline_among text at n))

-- The characters before the first newline.
unfoldable pub line_length : List ℕ → ℕ
line_length [] = 0
line_length (c ∷ cs) = pick (eqb c 10) 0 (suc (line_length cs))

-- The place of the first newline from a place on, or the text's length if there is none.
unfoldable pub line_end : List ℕ → ℕ → ℕ
line_end text at = at + line_length (drop at text)
