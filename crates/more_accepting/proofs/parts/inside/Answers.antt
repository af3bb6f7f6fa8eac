use Rattle.std.proofs.Common.{◌≡◌, List, filter, sym, ◌∙◌, subst}
use Rattle.std.proofs.lemmas.Result.{IfOk-weaker}
use Rattle.auto_core.specs.declared.parts.Trans.{Trans}
use Rattle.useful_states.specs.Cycles.{AreComponentNumbers}
use Rattle.more_accepting.specs.Making.{ArePart, HasParts, is_inside, IsInside}
use Rattle.more_accepting.proofs.PartLemmas.{filtered_part, inside_from}
use Rattle.more_accepting.proofs.parts.inside.Goals as goal

pub with_parts-requires-clause-transitions : goal.with_parts-requires-clause-transitions
with_parts-requires-clause-transitions c =
    let A = c.args.automaton.now in
    let numbers = c.deref.result.now in
    let moves : c.deref-2.result.now ≡ filter (is_inside numbers) A.transitions = c.deref-2.ensures.value ∙ c.in_ok-moves.ensures in
    subst (ArePart A) (sym moves) (filtered_part A c.states.ensures.valid (is_inside numbers))

pub returns : goal.returns
returns c =
    let A = c.args.automaton.now in
    let numbers = c.deref.result.now in
    let are = subst (AreComponentNumbers A) (sym c.deref.ensures.value) c.in_ok-numbers.ensures in
    let moves : c.deref-2.result.now ≡ filter (is_inside numbers) A.transitions = c.deref-2.ensures.value ∙ c.in_ok-moves.ensures in
    IfOk-weaker c.with_parts.result (HasParts A c.deref-2.result.now c.in_ok-none.none.set.members) (IsInside A)
    (λ B built. let P : List Trans → Type 0 = λ ts. HasParts A ts c.in_ok-none.none.set.members B in let h = subst P moves built in inside_from A B numbers c.in_ok-none.none.set.members are h)
    c.with_parts.ensures
