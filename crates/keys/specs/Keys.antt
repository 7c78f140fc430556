-- The key table (docs/RULES.md, section 1): one row for each key, in the order of the key numbers.
-- A code above 255 has the prefix E0: 0xe05b is sent as E0 5B. Assumes nothing.
use Rattle.std.specs.Prelude.{ℕ, List, [], ◌∷◌, map, eqb, get_or}
use Rattle.basics.specs.Choice.{pick}

-- The types of set 3, numbered in the order of the commands F7 to FA.
abbrev pub typematic : ℕ
typematic = 0

abbrev pub make_break : ℕ
make_break = 1

abbrev pub make : ℕ
make = 2

abbrev pub typematic_make_break : ℕ
typematic_make_break = 3

-- A row: the codes of sets 1, 2 and 3, and the type that the key has in set 3 until the host gives it another.
abbrev pub Row : Type 0
Row = ℕ × ℕ × ℕ × ℕ

abbrev pub row : ℕ → ℕ → ℕ → ℕ → Row
row one two three type = (one, two, three, type)

-- What stands for the code of a key in a set that has none for it.
abbrev pub no_code : ℕ
no_code = 0

-- The row of a media key: it has no code in set 3, and no type, which tells only there; 0 stands for that as well.
abbrev pub media : ℕ → ℕ → Row
media one two = row one two no_code 0

-- What stands for a number that is no key.
abbrev pub no_row : Row
no_row = row 0 0 0 0

-- Keys are numbered from 1 to this.
abbrev pub last_key : ℕ
last_key = 125

-- The rows of all keys, key 1 first.
unfoldable pub rows : List Row
rows =
    row 0x29 0x0e 0x0e typematic ∷  -- 1 `
    row 0x02 0x16 0x16 typematic ∷  -- 2 1
    row 0x03 0x1e 0x1e typematic ∷  -- 3 2
    row 0x04 0x26 0x26 typematic ∷  -- 4 3
    row 0x05 0x25 0x25 typematic ∷  -- 5 4
    row 0x06 0x2e 0x2e typematic ∷  -- 6 5
    row 0x07 0x36 0x36 typematic ∷  -- 7 6
    row 0x08 0x3d 0x3d typematic ∷  -- 8 7
    row 0x09 0x3e 0x3e typematic ∷  -- 9 8
    row 0x0a 0x46 0x46 typematic ∷  -- 10 9
    row 0x0b 0x45 0x45 typematic ∷  -- 11 0
    row 0x0c 0x4e 0x4e typematic ∷  -- 12 -
    row 0x0d 0x55 0x55 typematic ∷  -- 13 =
    row 0x0e 0x66 0x66 typematic ∷  -- 14 BACKSPACE
    row 0x0f 0x0d 0x0d typematic ∷  -- 15 TAB
    row 0x10 0x15 0x15 typematic ∷  -- 16 Q
    row 0x11 0x1d 0x1d typematic ∷  -- 17 W
    row 0x12 0x24 0x24 typematic ∷  -- 18 E
    row 0x13 0x2d 0x2d typematic ∷  -- 19 R
    row 0x14 0x2c 0x2c typematic ∷  -- 20 T
    row 0x15 0x35 0x35 typematic ∷  -- 21 Y
    row 0x16 0x3c 0x3c typematic ∷  -- 22 U
    row 0x17 0x43 0x43 typematic ∷  -- 23 I
    row 0x18 0x44 0x44 typematic ∷  -- 24 O
    row 0x19 0x4d 0x4d typematic ∷  -- 25 P
    row 0x1a 0x54 0x54 typematic ∷  -- 26 [
    row 0x1b 0x5b 0x5b typematic ∷  -- 27 ]
    row 0x2b 0x5d 0x5c typematic ∷  -- 28 \
    row 0x3a 0x58 0x14 make_break ∷  -- 29 CAPS
    row 0x1e 0x1c 0x1c typematic ∷  -- 30 A
    row 0x1f 0x1b 0x1b typematic ∷  -- 31 S
    row 0x20 0x23 0x23 typematic ∷  -- 32 D
    row 0x21 0x2b 0x2b typematic ∷  -- 33 F
    row 0x22 0x34 0x34 typematic ∷  -- 34 G
    row 0x23 0x33 0x33 typematic ∷  -- 35 H
    row 0x24 0x3b 0x3b typematic ∷  -- 36 J
    row 0x25 0x42 0x42 typematic ∷  -- 37 K
    row 0x26 0x4b 0x4b typematic ∷  -- 38 L
    row 0x27 0x4c 0x4c typematic ∷  -- 39 ;
    row 0x28 0x52 0x52 typematic ∷  -- 40 '
    row 0x1c 0x5a 0x5a typematic ∷  -- 41 ENTER
    row 0x2a 0x12 0x12 make_break ∷  -- 42 SHIFT_L
    row 0x2c 0x1a 0x1a typematic ∷  -- 43 Z
    row 0x2d 0x22 0x22 typematic ∷  -- 44 X
    row 0x2e 0x21 0x21 typematic ∷  -- 45 C
    row 0x2f 0x2a 0x2a typematic ∷  -- 46 V
    row 0x30 0x32 0x32 typematic ∷  -- 47 B
    row 0x31 0x31 0x31 typematic ∷  -- 48 N
    row 0x32 0x3a 0x3a typematic ∷  -- 49 M
    row 0x33 0x41 0x41 typematic ∷  -- 50 ,
    row 0x34 0x49 0x49 typematic ∷  -- 51 .
    row 0x35 0x4a 0x4a typematic ∷  -- 52 /
    row 0x36 0x59 0x59 make_break ∷  -- 53 SHIFT_R
    row 0x1d 0x14 0x11 make_break ∷  -- 54 CTRL_L
    row 0x38 0x11 0x19 make_break ∷  -- 55 ALT_L
    row 0x39 0x29 0x29 typematic ∷  -- 56 SPACE
    row 0xe038 0xe011 0x39 make ∷  -- 57 ALT_R
    row 0xe01d 0xe014 0x58 make ∷  -- 58 CTRL_R
    row 0xe052 0xe070 0x67 make ∷  -- 59 INS
    row 0xe053 0xe071 0x64 typematic ∷  -- 60 DEL
    row 0xe047 0xe06c 0x6e make ∷  -- 61 HOME
    row 0xe04f 0xe069 0x65 make ∷  -- 62 END
    row 0xe049 0xe07d 0x6f make ∷  -- 63 PAGE UP
    row 0xe051 0xe07a 0x6d make ∷  -- 64 PAGE DOWN
    row 0xe048 0xe075 0x63 typematic ∷  -- 65 UP
    row 0xe04b 0xe06b 0x61 typematic ∷  -- 66 LEFT
    row 0xe050 0xe072 0x60 typematic ∷  -- 67 DOWN
    row 0xe04d 0xe074 0x6a typematic ∷  -- 68 RIGHT
    row 0x45 0x77 0x76 make ∷  -- 69 NUM
    row 0xe035 0xe04a 0x77 make ∷  -- 70 keypad /
    row 0x37 0x7c 0x7e make ∷  -- 71 keypad *
    row 0x4a 0x7b 0x84 make ∷  -- 72 keypad -
    row 0x4e 0x79 0x7c typematic ∷  -- 73 keypad +
    row 0xe01c 0xe05a 0x79 make ∷  -- 74 keypad ENTER
    row 0x53 0x71 0x71 make ∷  -- 75 keypad DEL
    row 0x52 0x70 0x70 make ∷  -- 76 keypad 0
    row 0x4f 0x69 0x69 make ∷  -- 77 keypad 1
    row 0x50 0x72 0x72 make ∷  -- 78 keypad 2
    row 0x51 0x7a 0x7a make ∷  -- 79 keypad 3
    row 0x4b 0x6b 0x6b make ∷  -- 80 keypad 4
    row 0x4c 0x73 0x73 make ∷  -- 81 keypad 5
    row 0x4d 0x74 0x74 make ∷  -- 82 keypad 6
    row 0x47 0x6c 0x6c make ∷  -- 83 keypad 7
    row 0x48 0x75 0x75 make ∷  -- 84 keypad 8
    row 0x49 0x7d 0x7d make ∷  -- 85 keypad 9
    row 0x01 0x76 0x08 make ∷  -- 86 ESC
    row 0x3b 0x05 0x07 make ∷  -- 87 F1
    row 0x3c 0x06 0x0f make ∷  -- 88 F2
    row 0x3d 0x04 0x17 make ∷  -- 89 F3
    row 0x3e 0x0c 0x1f make ∷  -- 90 F4
    row 0x3f 0x03 0x27 make ∷  -- 91 F5
    row 0x40 0x0b 0x2f make ∷  -- 92 F6
    row 0x41 0x83 0x37 make ∷  -- 93 F7
    row 0x42 0x0a 0x3f make ∷  -- 94 F8
    row 0x43 0x01 0x47 make ∷  -- 95 F9
    row 0x44 0x09 0x4f make ∷  -- 96 F10
    row 0x57 0x78 0x56 make ∷  -- 97 F11
    row 0x58 0x07 0x5e make ∷  -- 98 F12
    row 0xe037 0xe07c 0x57 make ∷  -- 99 PRINT
    row 0x46 0x7e 0x5f make ∷  -- 100 SCROLL
    row 0xe046 0xe07e 0x62 make ∷  -- 101 PAUSE
    row 0xe05b 0xe01f 0x8b make_break ∷  -- 102 LWIN
    row 0xe05c 0xe027 0x8c make_break ∷  -- 103 RWIN
    row 0xe05d 0xe02f 0x8d make_break ∷  -- 104 APP
    media 0xe06a 0xe038 ∷  -- 105 WWW-BACK
    media 0xe069 0xe030 ∷  -- 106 WWW-FORWARD
    media 0xe068 0xe028 ∷  -- 107 WWW-STOP
    media 0xe067 0xe020 ∷  -- 108 WWW-REFRESH
    media 0xe065 0xe010 ∷  -- 109 WWW-SEARCH
    media 0xe066 0xe018 ∷  -- 110 WWW-FAVORITES
    media 0xe032 0xe03a ∷  -- 111 WEB/HOME
    media 0xe06c 0xe048 ∷  -- 112 MAIL
    media 0xe020 0xe023 ∷  -- 113 MUTE
    media 0xe02e 0xe021 ∷  -- 114 VOLUME-
    media 0xe030 0xe032 ∷  -- 115 VOLUME+
    media 0xe022 0xe034 ∷  -- 116 PLAY/PAUSE
    media 0xe024 0xe03b ∷  -- 117 STOP
    media 0xe010 0xe015 ∷  -- 118 PRE-TRACK
    media 0xe019 0xe04d ∷  -- 119 NEXT-TRACK
    media 0xe06d 0xe050 ∷  -- 120 MEDIA-SELECT
    media 0xe06b 0xe040 ∷  -- 121 MY-COMPUTER
    media 0xe021 0xe02b ∷  -- 122 CALCULATOR
    media 0xe05e 0xe037 ∷  -- 123 POWER
    media 0xe05f 0xe03f ∷  -- 124 SLEEP
    media 0xe063 0xe05e ∷  -- 125 WAKE-UP
    []

-- A row as the code lays it out: its three codes. Types are laid out by themselves, with the record.
abbrev pub codes_of : Row → List ℕ
codes_of r = r.0 ∷ r.1 ∷ r.2 ∷ []

-- The whole table so.
unfoldable pub laid_out : List (List ℕ)
laid_out = map codes_of rows

-- The row of a key.
unfoldable pub row_of : ℕ → Row
row_of key = get_or (no_row ∷ rows) key no_row

-- The code of a row in a set.
abbrev pub row_code : ℕ → Row → ℕ
row_code set r = pick (eqb set 1) r.0 (pick (eqb set 2) r.1 r.2)

-- The code of a key in a set.
unfoldable pub code_in : ℕ → ℕ → ℕ
code_in set key = row_code set (row_of key)

-- The type of a row: what its key has in set 3 until the host gives it another.
abbrev pub row_type : Row → ℕ
row_type r = r.3

-- What does not fit the rows. In sets 1 and 2 PRINT has another code while an ALT is held.
abbrev pub alt_print : ℕ → ℕ
alt_print set = pick (eqb set 1) 0x54 0x84

-- Shift wrapping borrows the codes of the two SHIFT keys, behind E0.
abbrev pub left_wrap : ℕ → ℕ
left_wrap set = pick (eqb set 1) 0xe02a 0xe012

abbrev pub right_wrap : ℕ → ℕ
right_wrap set = pick (eqb set 1) 0xe036 0xe059

-- The overrun mark of a set (docs/RULES.md, section 7): FF in set 1, 00 in sets 2 and 3. It is no code of any key.
abbrev pub mark_of : ℕ → ℕ
mark_of set = pick (eqb set 1) 0xff 0x00
