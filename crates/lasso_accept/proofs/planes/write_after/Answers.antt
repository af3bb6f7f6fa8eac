use Rattle.std.proofs.Common.{List, ℕ, sym, subst}
use Rattle.lasso_accept.specs.Plane.{ArePlanes}
use Rattle.lasso_accept.proofs.planes.write_after.Goals as goal

pub returns : goal.returns
returns c = λ w planes.
    let A = c.args.automaton.now in
    let P : List ℕ → Type 0 = λ x. ArePlanes A w c.args.width x c.args.from_flagged.now in
    let Q : List ℕ → Type 0 = λ x. ArePlanes A w c.args.width c.copy_from_slice.new.self x in
    c.write_before.ensures w (subst Q (sym c.copy_from_slice-2.ensures.after) (subst P (sym c.copy_from_slice.ensures.after) planes))
