use Rattle.std.proofs.Common.{◌≡◌, List, filter, sym, ◌∙◌, subst}
use Rattle.std.proofs.lemmas.Result.{IfOk-weaker}
use Rattle.auto_core.specs.declared.parts.Trans.{Trans}
use Rattle.more_accepting.specs.Making.{ArePart, HasParts, is_beside, IsBeside}
use Rattle.more_accepting.proofs.PartLemmas.{filtered_part, beside_from}
use Rattle.more_accepting.proofs.parts.beside.Goals as goal

pub with_parts-requires-clause-transitions : goal.with_parts-requires-clause-transitions
with_parts-requires-clause-transitions c =
    let A = c.args.automaton.now in
    let moves : c.deref.result.now ≡ filter (is_beside A) A.transitions = c.deref.ensures.value ∙ c.in_ok-moves.ensures in
    subst (ArePart A) (sym moves) (filtered_part A c.states.ensures.valid (is_beside A))

pub returns : goal.returns
returns c =
    let A = c.args.automaton.now in
    let moves : c.deref.result.now ≡ filter (is_beside A) A.transitions = c.deref.ensures.value ∙ c.in_ok-moves.ensures in
    IfOk-weaker c.with_parts.result (HasParts A c.deref.result.now c.in_ok-none.none.set.members) (IsBeside A)
    (λ B built. let P : List Trans → Type 0 = λ ts. HasParts A ts c.in_ok-none.none.set.members B in let h = subst P moves built in beside_from A B c.in_ok-none.none.set.members h)
    c.with_parts.ensures
