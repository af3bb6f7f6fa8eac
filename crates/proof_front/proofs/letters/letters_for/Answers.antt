use Rattle.std.proofs.Common.{rules}
use Rattle.letter_classes.specs.Columns.{IsOutOfOrder}
use Rattle.proof_front.proofs.letters.letters_for.Goals as goal

pub returns-in-Err-Order-clause-none : goal.returns-in-Err-Order-clause-none
returns-in-Err-Order-clause-none c = λ e are.
    let out : IsOutOfOrder c.args.letters.now = c.build.ensures.order (search rules) in
    let found = are.1 out.0 out.1 out.2 out.3 in
    out.4 found.0 found.1 found.2
