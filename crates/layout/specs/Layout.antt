-- The record as bytes (docs/RECORD.md, "As bytes"). Assumes nothing.
use Rattle.std.specs.Prelude.{ℕ, suc, ◌+◌, Bool, true, false, List, [], ◌∷◌, ◌++◌, eqb, leb, length, get_or, take, drop}
use Rattle.basics.specs.Choice.{both}
use Rattle.keys.specs.Keys.{last_key}
use Rattle.record.specs.declared.Rest.{Rest}
use Rattle.record.specs.declared.Dock.{Dock}
use Rattle.record.specs.Parts.{dock_with}
use Rattle.range.specs.Range.{in_range}

-- Where the parts begin behind the map, each behind the one before it, and how many bytes there are.
abbrev pub types_at : ℕ
types_at = 144

abbrev pub closed_at : ℕ
closed_at = types_at + suc last_key

abbrev pub counts_at : ℕ
counts_at = closed_at + 18

abbrev pub held_at : ℕ
held_at = counts_at + 144

abbrev pub queue_at : ℕ
queue_at = held_at + 144

abbrev pub small_at : ℕ
small_at = queue_at + 16

abbrev pub size : ℕ
size = small_at + 14

-- A flag as a byte.
abbrev pub flag_of : Bool → ℕ
flag_of true = 1
flag_of false = 0

-- A record's bytes: the arrays and the rest; of the rest the places of the queue, and behind them a byte for each number and flag.
unfoldable pub small_of : Rest → List ℕ
small_of r =
    r.outgoing.queue.length ∷ r.outgoing.repeating ∷ r.outgoing.countdown
    ∷ r.mode.set ∷ r.mode.rate ∷ r.mode.indicators
    ∷ get_or r.replies.bytes 0 0 ∷ get_or r.replies.bytes 1 0 ∷ get_or r.replies.bytes 2 0 ∷ r.replies.length
    ∷ flag_of r.scanning ∷ r.waiting ∷ flag_of r.handover ∷ r.given ∷ []

unfoldable pub rest_bytes : Rest → List ℕ
rest_bytes r = r.outgoing.queue.bytes ++ small_of r

unfoldable pub bytes_of : Dock → List ℕ
bytes_of d = d.map ++ (d.types ++ (d.closed ++ (d.counts ++ (d.held ++ rest_bytes d.rest))))

-- n bytes from a place on.
abbrev pub part : ℕ → ℕ → List ℕ → List ℕ
part at n l = take n (drop at l)

-- The parts of the record in bytes: the arrays,
abbrev pub map_in : List ℕ → List ℕ
map_in l = part 0 144 l

abbrev pub types_in : List ℕ → List ℕ
types_in l = part types_at (suc last_key) l

abbrev pub closed_in : List ℕ → List ℕ
closed_in l = part closed_at 18 l

abbrev pub counts_in : List ℕ → List ℕ
counts_in l = part counts_at 144 l

abbrev pub held_in : List ℕ → List ℕ
held_in l = part held_at 144 l

-- a number or flag by its place behind the queue's,
abbrev pub small : ℕ → List ℕ → ℕ
small n l = get_or l (small_at + n) 0

-- and the rest.
unfoldable pub rest_in : List ℕ → Rest
rest_in l =
    record {
      outgoing = record {
        queue = record { bytes = part queue_at 16 l; length = small 0 l };
        repeating = small 1 l;
        countdown = small 2 l;
      };
      mode = record { set = small 3 l; rate = small 4 l; indicators = small 5 l };
      replies = record { bytes = small 6 l ∷ small 7 l ∷ small 8 l ∷ []; length = small 9 l };
      scanning = eqb (small 10 l) 1;
      waiting = small 11 l;
      handover = eqb (small 12 l) 1;
      given = small 13 l;
    }

abbrev pub record_in : List ℕ → Dock
record_in l = dock_with (map_in l) (closed_in l) (counts_in l) (held_in l) (types_in l) (rest_in l)

-- Bytes are a record: as many as it has, its flags 0 or 1, and every part in its range.
unfoldable pub is_record : List ℕ → Bool
is_record l =
    both (eqb (length l) size) (both (leb (small 10 l) 1) (both (leb (small 12 l) 1) (in_range (record_in l))))
