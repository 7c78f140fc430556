-- What is sent where there is little room: the mark stands for anything but nothing. Assumes nothing.
use mathlib.Core.Path.{◌≡◌, refl, sym, ap, ◌∙◌}
use mathlib.Core.Bool.{Bool, true, false, not}
use mathlib.Core.List.{List, [], ◌++◌}
use Prim.Native.Nat.{ℕ, ◌+◌, ◌≤◌, ◌<◌}
use native.Mathlib.Omega.{arith}
use borrow.Author.Tests.{leb-false, lt-leb, lt-ltb, le-ltb, eq-eqb, ne_eqb, eqb-false}
use lib.Dec.{eqb}
use lib.ListN.{length, length-append}
use Rattle.basics.specs.Choice.{pick, both, either}
use Rattle.basics.proofs.Cases.{picked, never, two_by_cases, either_true}
use Rattle.codes.specs.declared.Action.TheVariants.{Press, Release}
use Rattle.codes.specs.declared.Sequence.{Sequence}
use Rattle.codes.specs.Codes.{prefix, make_of, break_of, before, after, code_of, is_other, is_pause, has_code, pauses_at_once, pause_bytes, sends_release, bytes_of, encode, form_of}
use Rattle.keys.specs.Keys.{code_in, mark_of, make_break, typematic_make_break}
use Rattle.keys.specs.Named.{first_media}
use Rattle.queue.specs.declared.Queue.{Queue}
use Rattle.queue.specs.Queues.{waiting, queue_of, last_replaced, tidy, contents, has_room, pushed_to}
use Rattle.queue.proofs.Meaning.{length_waiting, tidy_short, tidy_is}
use Rattle.queue.proofs.Room.{pushed_none, pushed_nothing}
use Rattle.record.specs.declared.Mode.{Mode}
use Rattle.sending.specs.Sending.{queued_of, shortest_release}

abbrev Long : ℕ → List ℕ → Type 0
Long n l = n ≤ length l

behind : (n : ℕ) (front rest : List ℕ) → n ≤ length rest → n ≤ length (front ++ rest)
behind n front rest h = rw (length-append front rest) (omega arith)

ahead : (n : ℕ) (front rest : List ℕ) → n ≤ length front → n ≤ length (front ++ rest)
ahead n front rest h = rw (length-append front rest) (omega arith)

make_some : (code : ℕ) → 1 ≤ length (make_of code)
unfolding make_of
make_some code = behind 1 (prefix code) _ (omega arith)

break_long : (set code : ℕ) → shortest_release set ≤ length (break_of set code)
unfolding break_of
break_long set code =
    behind (shortest_release set) (prefix code) _ (two_by_cases Long (eqb set 1) 1 2 _ _ (λ e. omega arith) (λ e. omega arith))

-- A press of a key that has a code sends something.
pub press_some : (set key type modifiers : ℕ) (lock : Bool) → has_code set key ≡ true → 1 ≤ length (encode set key Press type modifiers lock)
unfolding encode bytes_of pause_bytes
press_some set key type modifiers lock coded =
    let form = form_of set key modifiers lock in
    rw coded
    (picked (Long 1) (pauses_at_once set key) _ _
    (picked (Long 1) (is_other form) _ _ (ahead 1 (make_of (code_in set 101)) _ (make_some (code_in set 101))) (omega arith))
    (behind 1 (before set form) _ (make_some (code_of set key form))))

-- A silent release sends nothing, and any other has as many bytes as the shortest, or more.
module _ (set key type modifiers : ℕ) (lock silent : Bool)
    (e : silent ≡ either (pauses_at_once set key) (not (both (has_code set key) (sends_release set type)))) where
  broken : List ℕ
  broken = break_of set (code_of set key (form_of set key modifiers lock)) ++ after set (form_of set key modifiers lock)

  pub release_none : silent ≡ true → encode set key Release type modifiers lock ≡ []
  unfolding encode bytes_of broken
  release_none t = go (pauses_at_once set key) (has_code set key) (sends_release set type) (sym e ∙ t)
    where
      go : (p c s : Bool) → either p (not (both c s)) ≡ true → pick c (pick p [] (pick s broken [])) [] ≡ []
      go p false s n = refl
      go true true s n = refl
      go false true false n = refl
      go false true true n = never false n refl

  pub release_long : silent ≡ false → shortest_release set ≤ length (encode set key Release type modifiers lock)
  unfolding encode bytes_of broken
  release_long f = go (pauses_at_once set key) (has_code set key) (sends_release set type) (sym e ∙ f)
    where
      go : (p c s : Bool) → either p (not (both c s)) ≡ false → shortest_release set ≤ length (pick c (pick p [] (pick s broken [])) [])
      go false true true n =
          ahead (shortest_release set) (break_of set (code_of set key (form_of set key modifiers lock)))
          (after set (form_of set key modifiers lock))
          (break_long set (code_of set key (form_of set key modifiers lock)))
      go true c s n = never true refl n
      go false false s n = never true refl n
      go false true false n = never true refl n

-- The shortest release is short, and where it has no room no longer one has.
pub shortest_small : (set n : ℕ) → n ≡ shortest_release set → n ≤ 16
shortest_small set n e = rw e (picked (λ (k : ℕ). k ≤ 16) (eqb set 1) 1 2 (omega arith) (omega arith))

pub no_longer : (bytes : List ℕ) (n more : ℕ) → has_room bytes n ≡ false → n ≤ more → has_room bytes more ≡ false
no_longer bytes n more f h = lt-leb (length bytes + more) 16 (omega (arith, leb-false (length bytes + n) 16 f))

-- Which releases are silent: in set 3 those without a code, and of the others the type says; else it is that of PAUSE.
pub silent_by_code : (set key type : ℕ) → set ≡ 3 → first_media ≤ key
    → true ≡ either (pauses_at_once set key) (not (both (has_code set key) (sends_release set type)))
silent_by_code set key type e h = rw (e, le-ltb key first_media h) (sym (either_true (both (is_pause key) false)))

pub silent_by_type : (set key type : ℕ) → set ≡ 3 → key < first_media
    → both (not (eqb type make_break)) (not (eqb type typematic_make_break))
    ≡ either (pauses_at_once set key) (not (both (has_code set key) (sends_release set type)))
unfolding sends_release
silent_by_type set key type e h = rw (e, lt-ltb key first_media h) (go (is_pause key) (eqb type make_break) (eqb type typematic_make_break))
  where
    go : (p a b : Bool) → both (not a) (not b) ≡ either (both p false) (not (either a b))
    go true true b = refl
    go true false b = refl
    go false true b = refl
    go false false b = refl

pub silent_by_key : (set key type : ℕ) → 1 ≤ set → set ≤ 3 → (set ≡ 3 → ⊥)
    → is_pause key ≡ either (pauses_at_once set key) (not (both (has_code set key) (sends_release set type)))
unfolding sends_release
silent_by_key set key type low high n = rw (ne_eqb set 3 n) (go (is_pause key) (eqb set 1) refl)
  where
    go : (p b : Bool) → eqb set 1 ≡ b → p ≡ either (both p (either b (eqb set 2))) false
    go true true e = refl
    go false true e = refl
    go false false e = refl
    go true false e =
        let other : set ≡ 2 = omega (arith, eqb-false set 1 e) in
        rw (eq-eqb set 2 other)

-- What waits then, as the code finds it.
module _ (q : Queue) (m : Mode) (bytes : List ℕ) where
  -- Nothing is sent.
  pub nothing_queued : tidy q ≡ true → length q.bytes ≡ 16 → bytes ≡ [] → q ≡ queued_of q m bytes
  unfolding queued_of
  nothing_queued t places e =
      let short : length (waiting q) ≤ 16 = omega (arith, length_waiting q t places, tidy_short q t) in
      tidy_is q places t ∙ ap queue_of (sym (pushed_none (mark_of m.set) (waiting q) short) ∙ ap (pushed_to (mark_of m.set) (waiting q)) (sym e))

  module _ (mark : ℕ) (mark-is : mark ≡ mark_of m.set) (after : Queue) where
    -- There is no room, and the mark takes the place of the last byte.
    pub no_room_marks : after ≡ queue_of (last_replaced mark (waiting q)) → has_room (waiting q) (length bytes) ≡ false → after ≡ queued_of q m bytes
    unfolding queued_of
    no_room_marks e full =
        e ∙ ap (λ (x : ℕ). queue_of (last_replaced x (waiting q))) mark-is ∙ ap queue_of (sym (pushed_nothing (mark_of m.set) (waiting q) bytes full))

    -- The bytes are pushed.
    pub pushed_queues : (s : Sequence) → contents s ≡ bytes → after ≡ queue_of (pushed_to mark (waiting q) (contents s)) → after ≡ queued_of q m bytes
    unfolding queued_of
    pushed_queues s c e = rw (← c, ← mark-is) e
