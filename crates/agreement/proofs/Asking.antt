-- Asked which set is in use, the dock gives FA and then the set that the calls before have chosen, whatever they were; it goes on in that
-- set, and waits for no value. Assumes nothing.
use mathlib.Core.Path.{◌≡◌, ap, ◌∙◌}
use mathlib.Core.Bool.{true}
use mathlib.Core.List.{List, [], ◌∷◌}
use Prim.Native.Nat.{ℕ, ◌<◌}
use native.Mathlib.Omega.{arith}
use lib.ListN.{drop}
use Rattle.std.specs.Prelude.{Some, Ok}
use Rattle.dock.specs.declared.Given.TheVariants.{Reply}
use Rattle.dock.specs.Calls.{Call, Frame, Read}
use Rattle.dock.specs.Closing.{closing}
use Rattle.dock.specs.Frame.{took_frame, frame_of}
use Rattle.dock.specs.Read.{read_of}
use Rattle.frames.specs.Frames.{packed_of}
use Rattle.frames.proofs.RoundTrip.{pack_unpack}
use Rattle.host.specs.Values.{asked_of, valued, took_byte}
use Rattle.queue.specs.Queues.{waiting}
use Rattle.range.specs.Range.{in_range}
use Rattle.record.specs.declared.Dock.{Dock}
use Rattle.replies.specs.Replies.{waiting_replies, replies_of}
use Rattle.replies.proofs.ReplyMeaning.{waiting-replies_of}
use Rattle.runs.specs.Bytes.{foremost}
use Rattle.runs.specs.Machines.{ours}
use Rattle.runs.specs.Onlookers.{waiting_after, set_after, saw_byte}
use Rattle.runs.specs.Rules.{one_of, numbers_from, sets, values_for, waits_for_value}
use Rattle.runs.specs.Worlds.{World, woken, next, after_calls}
use Rattle.agreement.proofs.Bounds.{Steady, closing_replies, next_steady, reached_steady}
use Rattle.agreement.proofs.Giving.{read_gives, read_leaves}

-- The worlds after F0, after 00, and after a read.
abbrev after_f0 : World → World
after_f0 w = next ours w (Frame (packed_of 0xf0))

abbrev pub asked : World → World
asked w = next ours (after_f0 w) (Frame (packed_of 0))

abbrev pub read_once : World → World
read_once w = next ours w Read

-- The answer to the question, asked in a world.
pub record Told (w : World) : Type 0 where
  pub first : (read_of (asked w).dock).given ≡ Ok (Some (Reply 0xfa))
  pub second : (read_of (read_once (asked w)).dock).given ≡ Ok (Some (Reply w.onlooker.set))
  pub kept : (asked w).dock.rest.mode.set ≡ w.onlooker.set
  pub ended : (asked w).dock.rest.waiting ≡ 0

-- The frame of a byte brings that byte, to the dock
framed : (d : Dock) (byte : ℕ) → in_range d ≡ true → byte < 256 → (frame_of d (packed_of byte)).dock ≡ closing (took_byte byte d)
unfolding frame_of took_frame
framed d byte range small = grind (arith, pack_unpack)

-- and to the onlooker.
heard : (w : World) (byte : ℕ) → byte < 256 → (next ours w (Frame (packed_of byte))).onlooker ≡ saw_byte byte w.onlooker
unfolding next
heard w byte small = grind (arith, pack_unpack)

-- 00 asks, where F0 waits, and what is asked is answered.
which : (d : Dock) → d.rest.waiting ≡ 0xf0 → (took_byte 0 d).rest.replies ≡ replies_of (0xfa ∷ d.rest.mode.set ∷ [])
unfolding took_byte asked_of valued
which d waits = grind arith

module _ (w : World) (s : Steady w) where
  -- F0 waits for its value, and the set is as it was.
  f0_steady : Steady (after_f0 w)
  f0_steady = next_steady w (Frame (packed_of 0xf0)) s

  waits : (after_f0 w).onlooker.waiting ≡ 0xf0
  unfolding saw_byte waiting_after waits_for_value one_of numbers_from
  waits = grind (arith, heard)

  stays : (after_f0 w).onlooker.set ≡ w.onlooker.set
  unfolding saw_byte set_after sets one_of numbers_from
  stays = grind (arith, heard)

  -- 00 has both answers waiting, and ends the wait.
  asked_steady : Steady (asked w)
  asked_steady = next_steady (after_f0 w) (Frame (packed_of 0)) f0_steady

  replies : waiting_replies (asked w).dock.rest.replies ≡ 0xfa ∷ w.onlooker.set ∷ []
  unfolding next
  replies =
      let d = (after_f0 w).dock in
      let k = f0_steady.sound.knows in
      ap (λ (e : Dock). waiting_replies e.rest.replies) (framed d 0 f0_steady.sound.range (omega arith))
      ∙ ap waiting_replies (closing_replies (took_byte 0 d) ∙ which d (k.2 ∙ waits))
      ∙ waiting-replies_of (0xfa ∷ d.rest.mode.set ∷ []) ∙ ap (λ (set : ℕ). 0xfa ∷ set ∷ []) (k.3 ∙ stays)

  over : (asked w).onlooker.waiting ≡ 0
  unfolding saw_byte waiting_after values_for sets one_of numbers_from
  over = grind (arith, heard)

  still : (asked w).onlooker.set ≡ w.onlooker.set
  unfolding saw_byte set_after sets one_of numbers_from
  still = grind (arith, heard, stays)

  told : Told w
  told =
      let later = next_steady (asked w) Read asked_steady in
      let queue = waiting (asked w).dock.rest.outgoing.queue in
      let then = waiting (read_once (asked w)).dock.rest.outgoing.queue in
      record {
        first = read_gives (asked w) asked_steady ∙ ap (λ (l : List ℕ). Ok (foremost l queue)) replies;
        second = read_gives (read_once (asked w)) later
            ∙ ap (λ (l : List ℕ). Ok (foremost l then)) (read_leaves (asked w) asked_steady ∙ ap (λ (l : List ℕ). drop 1 l) replies);
        kept = asked_steady.sound.knows.3 ∙ still;
        ended = asked_steady.sound.knows.2 ∙ over;
      }

-- After any calls since power-on.
pub which_set_lem : (calls : List Call) → Told (after_calls ours (woken ours) calls)
which_set_lem calls = told (after_calls ours (woken ours) calls) (reached_steady calls)
