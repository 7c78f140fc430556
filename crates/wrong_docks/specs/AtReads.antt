-- Docks that are wrong at a read, or in their table (docs/RULES.md, sections 1 and 7). Assumes nothing.
use Rattle.std.specs.Prelude.{ℕ, eqb, Option, Some, None, Result, Ok}
use Rattle.basics.specs.Choice.{pick}
use Rattle.dock.specs.Answers.{taken}
use Rattle.dock.specs.Read.{read_of}
use Rattle.dock.specs.declared.Given.TheVariants.{KeyByte}
use Rattle.dock.specs.declared.Refusal.{Refusal}
use Rattle.dock.specs.declared.Given.{Given}
use Rattle.record.specs.declared.Dock.{Dock}
use Rattle.runs.specs.Machines.{Machine}
use Rattle.wrong_docks.specs.Docks.{reading_by}

-- Reads are always empty.
abbrev pub reads_nothing : Machine
reads_nothing = reading_by (λ (d : Dock). taken (Ok None) (read_of d).dock)

-- A key byte that is given is another.
abbrev pub other_byte : (ℕ → ℕ) → Result (Option Given) Refusal → Result (Option Given) Refusal
other_byte f (Ok (Some (KeyByte byte))) = Ok (Some (KeyByte (f byte)))
other_byte f other = other

-- Every key byte is the same,
abbrev pub one_constant_byte : Machine
one_constant_byte = reading_by (λ (d : Dock). let t = read_of d in taken (other_byte (λ byte. 0x1c) t.given) t.dock)

-- or the table has 1F where the code of the 2 is 1E.
abbrev pub one_wrong_byte : Machine
one_wrong_byte = reading_by (λ (d : Dock). let t = read_of d in taken (other_byte (λ byte. pick (eqb byte 0x1e) 0x1f byte) t.given) t.dock)
