-- The record with one part replaced. Assumes nothing.
use Rattle.std.specs.Prelude.{ℕ, Bool, List}
use Rattle.contacts.specs.Counts.{Contacts}
use Rattle.replies.specs.declared.Replies.{Replies}
use Rattle.record.specs.declared.Mode.{Mode}
use Rattle.record.specs.declared.Outgoing.{Outgoing}
use Rattle.record.specs.declared.Rest.{Rest}
use Rattle.record.specs.declared.Dock.{Dock}
use Rattle.record.specs.Views.{Keys, outgoing_of}

-- All parts, in the order of the record: the arrays and the rest,
abbrev pub dock_with : List ℕ → List ℕ → List ℕ → List ℕ → List ℕ → Rest → Dock
dock_with map closed counts held types rest =
    record { map = map; closed = closed; counts = counts; held = held; types = types; rest = rest }

-- and those of the rest.
abbrev pub rest_of : Outgoing → Mode → Replies → Bool → ℕ → Bool → ℕ → Rest
rest_of outgoing mode replies scanning waiting handover given =
    record {
      outgoing = outgoing;
      mode = mode;
      replies = replies;
      scanning = scanning;
      waiting = waiting;
      handover = handover;
      given = given;
    }

-- The record with another map, with other contacts, and so on: one part replaced at a time.
abbrev pub with_map : Dock → List ℕ → Dock
with_map d map = dock_with map d.closed d.counts d.held d.types d.rest

abbrev pub with_contacts : Dock → Contacts → Dock
with_contacts d contacts = dock_with d.map contacts.closed contacts.counts d.held d.types d.rest

abbrev pub with_types : Dock → List ℕ → Dock
with_types d types = dock_with d.map d.closed d.counts d.held types d.rest

abbrev pub with_rest : Dock → Rest → Dock
with_rest d rest = dock_with d.map d.closed d.counts d.held d.types rest

-- The flags are an array of their own, what goes out is a part of the rest.
abbrev pub with_keys : Dock → Keys → Dock
with_keys d keys = let r = d.rest in
    dock_with d.map d.closed d.counts keys.held d.types
    (rest_of (outgoing_of keys) r.mode r.replies r.scanning r.waiting r.handover r.given)

-- One part of the rest.
abbrev pub with_mode : Dock → Mode → Dock
with_mode d mode = let r = d.rest in
    with_rest d (rest_of r.outgoing mode r.replies r.scanning r.waiting r.handover r.given)

abbrev pub with_replies : Dock → Replies → Dock
with_replies d replies = let r = d.rest in
    with_rest d (rest_of r.outgoing r.mode replies r.scanning r.waiting r.handover r.given)

abbrev pub with_scanning : Dock → Bool → Dock
with_scanning d scanning = let r = d.rest in
    with_rest d (rest_of r.outgoing r.mode r.replies scanning r.waiting r.handover r.given)

abbrev pub with_waiting : Dock → ℕ → Dock
with_waiting d waiting = let r = d.rest in
    with_rest d (rest_of r.outgoing r.mode r.replies r.scanning waiting r.handover r.given)

abbrev pub with_handover : Dock → Bool → Dock
with_handover d handover = let r = d.rest in
    with_rest d (rest_of r.outgoing r.mode r.replies r.scanning r.waiting handover r.given)

abbrev pub with_given : Dock → ℕ → Dock
with_given d given = let r = d.rest in
    with_rest d (rest_of r.outgoing r.mode r.replies r.scanning r.waiting r.handover given)
