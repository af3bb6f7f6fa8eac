use Rattle.std.proofs.Common.{◌≡◌, rules, sym, ◌∙◌}
use Rattle.reduce_loop.proofs.CopyLemmas.{same_parts, alike_if_same}
use Rattle.reduce_loop.proofs.copying.is_same_automaton.Goals as goal

pub returns : goal.returns
returns c =
    let A = c.args.one.now in
    let B = c.args.other.now in
    let states : A.states ≡ B.states = search rules in
    let labels : A.labels ≡ B.labels = search rules in
    let initial : A.initial ≡ B.initial = search rules in
    let moves : A.transitions ≡ B.transitions = sym c.transitions.ensures.list ∙ c.has_moves.ensures.0 c.if-not-has_moves.false ∙ c.transitions-2.ensures.list in (
      λ h. same_parts A B c.states.ensures.valid c.states-2.ensures.valid states labels initial moves (c.has_accepting.ensures.0 h),
      λ e. c.has_accepting.ensures.1 (alike_if_same A B e),
    )
