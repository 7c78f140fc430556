-- A read leaves a settled dock settled, and the terminal, which takes what key byte it gave, goes on following. Assumes nothing.
use mathlib.Core.Path.{◌≡◌}
use mathlib.Core.Bool.{true}
use mathlib.Core.List.{List}
use Prim.Native.Nat.{ℕ, ◌≤◌}
use native.Mathlib.Omega.{arith}
use borrow.Author.Tests.{eqb-false}
use lib.ListN.{length}
use Rattle.dock.specs.Answers.{Taken}
use Rattle.dock.specs.Scan.{quiet}
use Rattle.dock.specs.Read.{oldest, without_oldest, remembering, reply_taken, key_byte_taken, read, read_of}
use Rattle.queue.specs.declared.Queue.{Queue}
use Rattle.queue.specs.Queues.{waiting}
use Rattle.record.specs.declared.Dock.{Dock}
use Rattle.record.specs.Views.{with_queue, keys_of}
use Rattle.record.specs.Parts.{with_keys}
use Rattle.range.specs.Range.{in_range}
use Rattle.runs.specs.Machines.{ours, nothing_waits}
use Rattle.runs.specs.Worlds.{takes}
use Rattle.telling.proofs.Told.{byte_told}
use Rattle.terminal.specs.Terminals.{Terminal, hears}
use Rattle.agreement.proofs.Following.{Follows, closing_follows}
use Rattle.agreement.proofs.Ready.{IsReady, Settled, closing_settled}
use Rattle.dock.proofs.Calls.{by_read}
use Rattle.dock.proofs.Arrays.{behind_places}

byte_ready : (d : Dock) (scans : List (List ℕ)) → IsReady d scans
    → IsReady (with_keys d (with_queue (keys_of d) (without_oldest d.rest.outgoing.queue))) scans
byte_ready d scans r = grind (arith, behind_places)

pub read_settled : (d : Dock) (scans : List (List ℕ)) → Settled d scans → Settled (read_of d).dock scans
unfolding reply_taken key_byte_taken remembering
read_settled d scans s =
    by_read (λ (t : Taken). Settled t.dock scans) d s (λ none empty. closing_settled d scans s.ready)
    (λ none some. closing_settled _ scans (byte_ready d scans s.ready)) (λ some. closing_settled _ scans s.ready)

-- A queue of some length holds some bytes.
pub some_wait : (q : Queue) → length q.bytes ≡ 16 → (q.length ≡ 0 → ⊥) → 1 ≤ length (waiting q)
unfolding waiting
some_wait q places some = grind arith

-- The terminal takes a key byte.
byte_follows : (d : Dock) (t : Terminal) → 1 ≤ length (waiting d.rest.outgoing.queue) → Follows d t
    → Follows (with_keys d (with_queue (keys_of d) (without_oldest d.rest.outgoing.queue))) (hears d.rest.mode.set t (oldest d.rest.outgoing.queue))
byte_follows d t some f = record { chosen = f.chosen; firm = f.firm; told = byte_told d.rest.mode.set t (keys_of d) some f.told }

pub read_follows : (d : Dock) (scans : List (List ℕ)) (t : Terminal) → Settled d scans → Follows d t
    → Follows (read_of d).dock (takes d.rest.mode.set (read_of d).given t)
unfolding reply_taken key_byte_taken remembering
read_follows d scans t s f =
    let q = d.rest.outgoing.queue in
    by_read (λ (r : Taken). Follows r.dock (takes d.rest.mode.set r.given t)) d f (λ none empty. closing_follows d t f)
    (λ none some. closing_follows _ (hears d.rest.mode.set t (oldest q))
    (byte_follows d t (some_wait q s.ready.places.bytes (eqb-false q.length 0 some)) f))
    (λ some. closing_follows _ t f)

-- A read gives nothing exactly where nothing waits.
pub nothing_is_quiet : (d : Dock) → in_range d ≡ true → nothing_waits ours d ≡ quiet d
unfolding read_of read reply_taken key_byte_taken
nothing_is_quiet d range = grind arith
