-- A read (docs/RULES.md, section 7). Assumes nothing.
use Rattle.std.specs.Prelude.{ℕ, [], ◌∷◌, eqb, get_or, drop, Some, None, Ok, Err}
use Rattle.basics.specs.Choice.{pick}
use Rattle.basics.specs.Said.{Said, accepted, refused}
use Rattle.hostbytes.specs.Named as host
use Rattle.queue.specs.declared.Queue.{Queue}
use Rattle.replies.specs.declared.Replies.{Replies}
use Rattle.queue.specs.Queues.{waiting, queue_of}
use Rattle.replies.specs.Replies.{waiting_replies, replies_of}
use Rattle.record.specs.declared.Dock.{Dock}
use Rattle.record.specs.Views.{with_queue, keys_of}
use Rattle.record.specs.Parts.{with_given, with_replies, with_keys}
use Rattle.range.specs.Range.{in_range}
use Rattle.dock.specs.declared.Given.TheVariants.{Reply, KeyByte}
use Rattle.dock.specs.declared.Refusal.TheVariants.{BadRecord}
use Rattle.dock.specs.Answers.{Taken, a_reply, a_key_byte, taken}
use Rattle.dock.specs.Closing.{closing}

-- The oldest byte of a queue, and the queue without it.
abbrev pub oldest : Queue → ℕ
oldest q = get_or (waiting q) 0 0

abbrev pub without_oldest : Queue → Queue
without_oldest q = queue_of (drop 1 (waiting q))

-- The same of the replies.
abbrev pub oldest_reply : Replies → ℕ
oldest_reply r = get_or (waiting_replies r) 0 0

abbrev pub replies_behind : Replies → Replies
replies_behind r = replies_of (drop 1 (waiting_replies r))

-- A byte was given: what is sent again on FE is the last one that was not FE itself.
unfoldable pub remembering : Dock → ℕ → Dock
remembering d byte = with_given d (pick (eqb byte host.resend) d.rest.given byte)

-- The oldest reply is given.
unfoldable pub reply_taken : Dock → Taken
reply_taken d =
    let byte = oldest_reply d.rest.replies in
    taken (Ok (Some (Reply byte))) (closing (remembering (with_replies d (replies_behind d.rest.replies)) byte))

-- The oldest key byte is given.
unfoldable pub key_byte_taken : Dock → Taken
key_byte_taken d =
    let q = d.rest.outgoing.queue in
    taken (Ok (Some (KeyByte (oldest q)))) (closing (remembering (with_keys d (with_queue (keys_of d) (without_oldest q))) (oldest q)))

-- The oldest reply, else the oldest key byte, else nothing.
unfoldable pub read : Dock → Taken
read d =
    pick (eqb d.rest.replies.length 0)
    (pick (eqb d.rest.outgoing.queue.length 0) (taken (Ok None) (closing d)) (key_byte_taken d))
    (reply_taken d)

-- The read call: only a record out of its range is refused.
unfoldable pub read_of : Dock → Taken
read_of d = pick (in_range d) (read d) (taken (Err BadRecord) d)

-- What is said of it, by the table: the oldest reply, else the oldest key byte, else neither.
unfoldable pub read_said : Dock → Said
read_said d =
    pick (in_range d)
    (accepted
    (pick (eqb d.rest.replies.length 0)
    (pick (eqb d.rest.outgoing.queue.length 0) [] (a_key_byte ∷ oldest d.rest.outgoing.queue ∷ []))
    (a_reply ∷ oldest_reply d.rest.replies ∷ [])))
    (refused 9)
