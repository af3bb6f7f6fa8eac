use Rattle.std.proofs.Common.{◌-◌, ◌<◌, List, ℕ, length, drop, IfOk, sym, subst, arith}
use Rattle.std.proofs.lemmas.List.{take-append-drop}
use Rattle.auto_core.specs.Automaton.{Automaton}
use Rattle.lasso_accept.specs.Plane.{ArePlanes}
use Rattle.lasso_accept.specs.declared.tails.Tail.{Tail}
use Rattle.lasso_accept.specs.Tails.{IsTail}
use Rattle.lasso_accept.proofs.tails.planes_by.Goals as goal

pub returns : goal.returns
returns c =
    let A : Automaton = c.args.automaton.now in
    let word : List ℕ = c.args.word.now in
    let tail : Tail = c.index-kept-kept.result in
    let some : length c.args.kept.now - 1 < length c.args.kept.now = (let none = c.if-kept-eq0.false in omega (arith, none)) in
    let is : IsTail A word tail = subst (IsTail A word) (sym c.index-kept-kept.is) (c.requires.tails (length c.args.kept.now - 1) tail some) in
    let at : ℕ = length word - tail.length in
    let P : ℕ → Type 0 = λ k. ArePlanes A (drop at word) k tail.planes.any.items tail.planes.flagged.items in
    let planes : ArePlanes A (drop at word) c.args.width tail.planes.any.items tail.planes.flagged.items = subst P (sym c.requires.width) (is c.if-tail-word.false) in
    let Q : List ℕ → Type 0 = λ x. IfOk c.planes_before.result (λ p. ArePlanes A x c.args.width p.any.items p.flagged.items) in
    subst Q (take-append-drop at word) (c.planes_before.ensures (drop at word) planes)
