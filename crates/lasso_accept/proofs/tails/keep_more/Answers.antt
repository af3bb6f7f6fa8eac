use Rattle.std.proofs.Common.{◌≡◌, ◌+◌, ◌-◌, ℕ, List, length, drop, sym, subst, arith}
use Rattle.std.proofs.lemmas.List.{length-drop, take_all}
use Rattle.std.proofs.lemmas.List.Elements.{All-push}
use Rattle.auto_core.specs.Automaton.{Automaton}
use Rattle.lasso_accept.specs.Plane.{ArePlanes}
use Rattle.lasso_accept.specs.declared.planes.Planes.{Planes}
use Rattle.lasso_accept.specs.declared.tails.Tail.{Tail}
use Rattle.lasso_accept.specs.Tails.{IsTail, AreTails}
use Rattle.lasso_accept.proofs.tails.keep_more.Goals as goal

pub loop-length-preserved : goal.loop-length-preserved
loop-length-preserved c =
    let A : Automaton = c.args.automaton.now in
    let word : List ℕ = c.args.word.now in
    let count : ℕ = c.loop-length.length + c.args.step in
    let planes : Planes = c.in_ok-planes.planes in
    let tail : Tail = record { length = count; planes = planes } in
    let P : ℕ → Type 0 = λ k. ArePlanes A (drop (length word - count) word) k planes.any.items planes.flagged.items in
    let at : ℕ = length word - count in
    let len : length (drop at word) ≡ length word - at = length-drop at word in
    let Q : List ℕ → Type 0 = λ x. ArePlanes A x c.args.width planes.any.items planes.flagged.items in
    let end : Q (drop at word) = subst Q (take_all (length word - at) (drop at word) (omega (arith, len))) c.in_ok-planes.ensures in
    let is : IsTail A word tail = λ _. subst P c.requires.width end in
    subst (AreTails A word) (sym c.in_ok-push.ensures.items) (All-push (IsTail A word) c.loop-length.kept.items tail c.loop-length.invariant is)
