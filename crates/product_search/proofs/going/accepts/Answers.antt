use Rattle.std.proofs.Common.{◌≡◌, false, sym, subst, arith}
use Rattle.auto_core.specs.Automaton.{is_accepting}
use Rattle.product_laws.proofs.GoesLemmas.{no_state_is_plain}
use Rattle.product_search.proofs.going.accepts.Goals as goal

pub returns-then-state-states : goal.returns-then-state-states
returns-then-state-states c =
    let B = c.args.second.now in
    let none : B.states ≡ c.args.state = omega (arith, c.if-state-states.true, c.requires, c.states.ensures.count) in
    subst (λ n. false ≡ is_accepting B n) none (sym (no_state_is_plain B c.states.ensures.valid))
