-- The sizes of the record's arrays. Assumes nothing.
use Rattle.std.specs.Prelude.{ℕ, suc, ◌≡◌, List, length}
use Rattle.keys.specs.Keys.{last_key}
use Rattle.record.specs.declared.Dock.{Dock}

-- Arrays of these sizes.
pub record Sized (map' closed' counts' held' types' queue' replies' : List ℕ) : Type 0 where
  pub map : length map' ≡ 144
  pub closed : length closed' ≡ 18
  pub counts : length counts' ≡ 144
  pub held : length held' ≡ 144
  pub types : length types' ≡ suc last_key
  pub queue : length queue' ≡ 16
  pub replies : length replies' ≡ 3

-- Every array of a record has its size.
abbrev pub IsSized : Dock → Type 0
IsSized d = Sized d.map d.closed d.counts d.held d.types d.rest.outgoing.queue.bytes d.rest.replies.bytes
