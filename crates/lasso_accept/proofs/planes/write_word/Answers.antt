use Rattle.std.proofs.Common.{List, ℕ, [], append-nil, subst}
use Rattle.lasso_accept.specs.Plane.{ArePlanes}
use Rattle.lasso_accept.proofs.planes.write_word.Goals as goal

pub returns : goal.returns
returns c =
    let P : List ℕ → Type 0 = λ x. ArePlanes c.args.automaton.now x c.args.width c.write_before.new.any c.write_before.new.flagged in
    subst P (append-nil c.args.word.now) (c.write_before.ensures [] c.write_empty.ensures)
