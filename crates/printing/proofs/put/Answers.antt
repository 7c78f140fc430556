-- `printing::put` meets its contract: four characters more fit into the output, and those of what is printed are put there. Assumes nothing.
use mathlib.Core.Path.{◌≡◌, refl, ◌∙◌}
use native.Mathlib.Omega.{arith}
use borrow.Author.Rules.{rules}
use Rattle.std.specs.Prelude.{Some, None, Ok}
use Rattle.printing.proofs.Prints.{puts_nothing, puts}
use Rattle.printing.proofs.put.Goals as goal

pub returns-in-Ok-None : goal.returns-in-Ok-None
returns-in-Ok-None c =
    let printed : c.args.printed ≡ Ok None = search rules in
    puts_nothing _ _ _ printed

pub returns-in-Ok-Some : goal.returns-in-Ok-Some
returns-in-Ok-Some c =
    let printed : c.args.printed ≡ Ok (Some c.in-Ok-Some.frame) = search rules in
    puts c.args.at 4 c.args.out.now _ c.args.printed _ printed
    (c.copy_from_slice.ensures.after ∙ rw (c.digit_of.ensures, c.digit_of-in-Ok-Some.ensures, c.digit_of-in-Ok-Some-2.ensures)) refl c.requires

pub returns-in-Err : goal.returns-in-Err
returns-in-Err c =
    puts c.args.at 3 c.args.out.now _ c.args.printed _ c.in-Err.is (c.copy_from_slice-in-Err.ensures.after ∙ rw c.digit_of-in-Err.ensures) refl
    (omega arith)
