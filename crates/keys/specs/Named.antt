-- The keys that the rules call by name (docs/RULES.md, sections 1 and 3). Assumes nothing.
use Rattle.std.specs.Prelude.{ℕ}

-- The six modifier keys.
abbrev pub shift_l : ℕ
shift_l = 42

abbrev pub shift_r : ℕ
shift_r = 53

abbrev pub ctrl_l : ℕ
ctrl_l = 54

abbrev pub alt_l : ℕ
alt_l = 55

abbrev pub alt_r : ℕ
alt_r = 57

abbrev pub ctrl_r : ℕ
ctrl_r = 58

-- The ten cursor keys stand from INS to RIGHT.
abbrev pub first_cursor : ℕ
first_cursor = 59

abbrev pub last_cursor : ℕ
last_cursor = 68

-- The others that have forms, and NUM, whose code PAUSE borrows.
abbrev pub num_key : ℕ
num_key = 69

abbrev pub keypad_slash : ℕ
keypad_slash = 70

abbrev pub print_key : ℕ
print_key = 99

abbrev pub pause_key : ℕ
pause_key = 101

-- The media keys stand from here on.
abbrev pub first_media : ℕ
first_media = 105
