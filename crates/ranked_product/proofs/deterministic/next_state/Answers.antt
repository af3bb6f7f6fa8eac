use Rattle.std.proofs.Common.{sym, subst, get_or, le_refl, arith}
use Rattle.auto_core.specs.Automaton.{Moves, trans}
use Rattle.auto_core.proofs.MoveLemmas.{successor_moves}
use Rattle.ranked_product.proofs.deterministic.next_state.Goals as goal

pub returns-clause-some : goal.returns-clause-some
returns-clause-some c =
    let A = c.args.automaton.now in
    let span = c.successors-span.result in
    let range = c.successors-span.ensures.range in
    let rising = range.is_range in
    subst (λ ts. Moves A c.args.state c.args.letter (get_or ts span.begin (trans 0 0 0)).target) (sym c.transitions.ensures.list)
    (successor_moves A c.args.state c.args.letter span.begin span.end range span.begin (le_refl span.begin) (omega (arith, c.if-span.false)))
