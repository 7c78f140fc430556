-- Answers as one number, for C (include/keydock.h): 0 or more is an answer, and a refusal is minus its number in docs/RULES.md,
-- section 9. Assumes nothing.
use Rattle.std.specs.Prelude.{ℕ, ◌+◌, ◌*◌, ℤ, pos, get_or, unwrap_or, Result, Ok, Err}
use Rattle.basics.specs.Said.{minus}
use Rattle.frames.specs.declared.FrameError.{FrameError}
use Rattle.frames.specs.declared.FrameError.TheVariants.{Broken, TooLarge}
use Rattle.encoder.specs.declared.EncodeError.{EncodeError}
use Rattle.encoder.specs.declared.EncodeError.TheVariants.{BadChoice, ShortOutput}
use Rattle.reader.specs.declared.Event.{Event}
use Rattle.reader.specs.declared.Answer.{Answer}
use Rattle.reader.specs.declared.Press.{Press}
use Rattle.reader.specs.declared.ReadError.{ReadError}
use Rattle.frames.specs.Frames as frames
use Rattle.encoder.specs.Encoder as encoder
use Rattle.reader.specs.Reader as reader

-- A frame unpacked: its byte, -256 if it is broken, -5 if the number is over 2047.
abbrev pub unpacked_number : Result ℕ FrameError → ℤ
unpacked_number (Ok byte) = pos byte
unpacked_number (Err Broken) = minus 256
unpacked_number (Err TooLarge) = minus (frames.unpacked_says (Err TooLarge)).number

-- A key encoded: how many bytes were written, or minus the refusal.
abbrev pub encoded_number : Result ℕ EncodeError → ℤ
encoded_number (Ok count) = pos count
encoded_number (Err BadChoice) = minus (encoder.encoded_says (Err BadChoice)).number
encoded_number (Err ShortOutput) = minus (encoder.encoded_says (Err ShortOutput)).number

-- What an event says: its place in the list of events is the first of its values, and its key, if it has one, the second.
abbrev pub event_number : Event → ℕ
event_number event = get_or (reader.event_says event).values 0 0

abbrev pub key_of : Event → ℕ
key_of event = get_or (reader.event_says event).values 1 0

-- A byte read: event, key and next state in one number, or minus the refusal.
unfoldable pub answer_number : Result Answer ReadError → ℤ
answer_number (Ok answer) = pos (event_number answer.event + 256 * key_of answer.event + 65536 * answer.state)
answer_number (Err error) = minus (reader.error_says error).number

-- A press read: key, 0 for none, and next state in one number, or minus the refusal.
unfoldable pub press_number : Result Press ReadError → ℤ
press_number (Ok press) = pos (256 * unwrap_or press.key 0 + 65536 * press.state)
press_number (Err error) = minus (reader.error_says error).number
