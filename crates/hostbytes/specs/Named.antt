-- The bytes that the host and the dock say to each other, by the names of the rules (docs/RULES.md, section 11). Assumes nothing.
use Rattle.std.specs.Prelude.{ℕ}

-- From this one on a byte is a command; below it a byte is a value.
abbrev pub first_command : ℕ
first_command = 0xed

abbrev pub indicators : ℕ
indicators = 0xed

abbrev pub echo : ℕ
echo = 0xee

abbrev pub choose_set : ℕ
choose_set = 0xf0

-- In place of a set: which one is in use?
abbrev pub which_set : ℕ
which_set = 0

abbrev pub identify : ℕ
identify = 0xf2

abbrev pub rate : ℕ
rate = 0xf3

abbrev pub enable : ℕ
enable = 0xf4

abbrev pub disable : ℕ
disable = 0xf5

abbrev pub defaults : ℕ
defaults = 0xf6

-- Four commands give all keys the types 0 to 3, and three give one key the types 0 to 2.
abbrev pub all_types : ℕ
all_types = 0xf7

abbrev pub last_all_types : ℕ
last_all_types = 0xfa

abbrev pub key_type : ℕ
key_type = 0xfb

abbrev pub last_key_type : ℕ
last_key_type = 0xfd

abbrev pub reset : ℕ
reset = 0xff

-- To be sent again: asked by either side.
abbrev pub resend : ℕ
resend = 0xfe

-- Replies: understood; awake and well; and the two bytes of a keyboard's identity.
abbrev pub acknowledged : ℕ
acknowledged = 0xfa

abbrev pub awake : ℕ
awake = 0xaa

abbrev pub identity : ℕ
identity = 0xab

abbrev pub identity_end : ℕ
identity_end = 0x83
