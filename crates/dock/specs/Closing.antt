-- The end of every accepted call: an open handover goes on (docs/RULES.md, section 8). Assumes nothing.
use Rattle.basics.specs.Choice.{pick}
pub use Rattle.keying.specs.Handover.{with_handed}
use Rattle.keying.specs.Handover.{handed_over}
use Rattle.record.specs.declared.Dock.{Dock}
use Rattle.record.specs.Views.{keys_of}

-- An open handover goes on; else nothing changes.
unfoldable pub closing : Dock → Dock
closing d = pick d.rest.handover (with_handed d (handed_over (keys_of d) d.rest.mode d.types)) d
