-- The key bytes of a call and of a run: what goes into the queue, and what is given out of it (docs/RULES.md, sections 6 to 8).
-- Assumes nothing.
use Rattle.std.specs.Prelude.{ℕ, Bool, List, [], ◌∷◌, ◌++◌, get_or, Option, Some, None, Result, Ok, Err}
use Rattle.basics.specs.Choice.{pick}
use Rattle.keys.specs.Keys.{last_key}
use Rattle.codes.specs.declared.Action.TheVariants.{Repeat}
use Rattle.codes.specs.Codes.{may_repeat}
use Rattle.phantom.specs.Phantom.{is_phantom}
use Rattle.contacts.specs.Counts.{counted_of}
use Rattle.dock.specs.declared.Given.{Given}
use Rattle.dock.specs.declared.Given.TheVariants.{Reply, KeyByte}
use Rattle.dock.specs.declared.Refusal.{Refusal}
use Rattle.dock.specs.Answers.{is_accepted}
use Rattle.dock.specs.Scan.{listening, changed, quiet, scan_of}
use Rattle.dock.specs.Swap.{remapped, swap_of}
use Rattle.dock.specs.Frame.{frame_of}
use Rattle.dock.specs.Read.{without_oldest, read_of}
use Rattle.frames.specs.declared.FrameError.{FrameError}
use Rattle.frames.specs.declared.FrameError.TheVariants.{Broken, TooLarge}
use Rattle.frames.specs.Frames.{unpacked_of}
use Rattle.host.specs.Values.{took_byte}
use Rattle.keying.specs.Repeat.{ticked, is_due}
use Rattle.record.specs.declared.Mode.{Mode}
use Rattle.record.specs.Views.{Keys, contacts_of, keys_of, with_queue}
use Rattle.record.specs.Parts.{with_keys}
use Rattle.record.specs.declared.Dock.{Dock}
use Rattle.sending.specs.Sending.{sends}
use Rattle.telling.specs.Queued.{turn_bytes, handed_bytes}
use Rattle.dock.specs.Calls.{Call, Scan, Swap, Frame, Read, as_bytes}
use Rattle.runs.specs.Machines.{ours}
use Rattle.runs.specs.Worlds.{World, next}

-- The bytes of a repeat, if one is due, the key still may repeat, and all is quiet.
unfoldable pub repeat_bytes : Keys → Mode → List ℕ → Bool → List ℕ
repeat_bytes k m types quiet =
    let type = get_or types k.repeating 0 in
    pick (is_due k)
    (pick (may_repeat m.set k.repeating type) (pick quiet (sends k m type k.repeating Repeat) []) [])
    []

-- The sequences of the keys whose contacts turn in a scan; a phantom scan turns none.
unfoldable pub change_bytes : Dock → List ℕ → List ℕ
change_bytes d scan =
    pick (is_phantom scan) []
    (turn_bytes 144 d.rest.mode d.types d.map d.closed (counted_of (contacts_of d) scan).closed (keys_of d))

-- What a scan that is listened to puts into the queue: the sequences of its changes, then the repeat.
unfoldable pub heard_bytes : Dock → List ℕ → List ℕ
heard_bytes d scan =
    let still = with_keys d (ticked (keys_of d)) in
    let then = changed still scan in
    change_bytes still scan ++ repeat_bytes (keys_of then) then.rest.mode then.types (quiet then)

-- What the end of an accepted call puts into it: the releases of an open handover, as far as they fit.
unfoldable pub closing_bytes : Dock → List ℕ
closing_bytes d = pick d.rest.handover (handed_bytes last_key 1 (keys_of d) d.rest.mode d.types) []

-- What a scan puts into it: one that is not listened to only ends.
unfoldable pub scan_bytes : Dock → List ℕ → List ℕ
scan_bytes d scan = pick (listening d) (heard_bytes d scan) (closing_bytes d)

-- What a frame puts into it: nothing but what the end does, once its byte has done its work.
abbrev pub frame_bytes : Result ℕ FrameError → Dock → List ℕ
frame_bytes (Ok byte) d = closing_bytes (took_byte byte d)
frame_bytes (Err Broken) d = closing_bytes d
frame_bytes (Err TooLarge) d = []

-- What a read puts into it, by what it gives: the end of the call, once a key byte has left the queue.
abbrev pub read_bytes : Result (Option Given) Refusal → Dock → List ℕ
read_bytes (Ok (Some (KeyByte byte))) d = closing_bytes (with_keys d (with_queue (keys_of d) (without_oldest d.rest.outgoing.queue)))
read_bytes (Ok other) d = closing_bytes d
read_bytes (Err refusal) d = []

-- What a call puts into the queue; a call that is not accepted puts nothing.
abbrev pub queued_by : Dock → Call → List ℕ
queued_by d (Scan scan) = let bytes = as_bytes scan in pick (is_accepted (scan_of d bytes).answer) (scan_bytes d bytes) []
queued_by d (Swap map) = pick (is_accepted (swap_of d map).answer) (closing_bytes (remapped d map)) []
queued_by d (Frame number) = pick (is_accepted (frame_of d number).answer) (frame_bytes (unpacked_of number) d) []
queued_by d Read = read_bytes (read_of d).given d

-- The key byte among what a read gives.
abbrev pub key_bytes_of : Result (Option Given) Refusal → List ℕ
key_bytes_of (Ok (Some (KeyByte byte))) = byte ∷ []
key_bytes_of other = []

-- The key byte that a call gives; only a read gives one.
abbrev pub given_by : Dock → Call → List ℕ
given_by d (Scan scan) = []
given_by d (Swap map) = []
given_by d (Frame number) = []
given_by d Read = key_bytes_of (read_of d).given

-- All that calls put into the queue, one after the other.
unfoldable pub queued_in : World → List Call → List ℕ
queued_in w [] = []
queued_in w (call ∷ calls) = queued_by w.dock call ++ queued_in (next ours w call) calls

-- All key bytes that they give.
unfoldable pub given_in : World → List Call → List ℕ
given_in w [] = []
given_in w (call ∷ calls) = given_by w.dock call ++ given_in (next ours w call) calls

-- What a read should give where these replies and these key bytes wait: the oldest reply, else the oldest key byte, else nothing.
abbrev pub foremost : List ℕ → List ℕ → Option Given
foremost (reply ∷ replies) bytes = Some (Reply reply)
foremost [] (byte ∷ bytes) = Some (KeyByte byte)
foremost [] [] = None
